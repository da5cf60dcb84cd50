-- What is signed of a message, in bytes.
use Rattle.std.specs.Prelude.{◌≡◌, ◌<◌, ◌++◌, ℕ, List, ◌∷◌, Option, Some, None, length, drop}
use Rattle.std.specs.Int.{w16, to_be_bytes}
use Rattle.mls.specs.FramedContentTBS.{framed_content_tbs_format}
use Rattle.tls_codec_base.specs.PartNames.{SliceNames}
use Rattle.tls_codec_validate.specs.Places.{PlacedNames}
use Rattle.tls_codec_outcome.specs.declared.outcome.Outcome.{Outcome}
use Rattle.tls_codec_outcome.specs.Outcomes.{Decides, IsRejection, IsTaken}

-- FramedContentTBS (RFC 9420, section 6.1): the version mls10, the wire format, the content, and the context if there is one
abbrev pub tbs_bytes : ℕ → List ℕ → List ℕ → List ℕ
tbs_bytes wire_format content context = (0 ∷ 1 ∷ to_be_bytes w16 wire_format) ++ (content ++ context)

-- what validation says of them
pub record SaysOf (names : SliceNames) (places : PlacedNames) (bytes : List ℕ) (said : Outcome) : Type 0 where
  pub status : Decides framed_content_tbs_format bytes said.status
  pub taken : IsTaken framed_content_tbs_format bytes said.status said.taken
  pub rejected : IsRejection names places bytes said.status said.at said.detail

-- a buffer begins with them, and is else as it was; or it has no room for them, and is as it was
abbrev pub Writes : (bytes old new : List ℕ) → Option Outcome → Type 0
Writes bytes old new None = (length old < length bytes) × (new ≡ old)
Writes bytes old new (Some said) = new ≡ bytes ++ drop (length bytes) old

-- validation says so of them
abbrev pub Says : SliceNames → PlacedNames → (bytes : List ℕ) → Option Outcome → Type 0
Says names places bytes None = Unit {0}
Says names places bytes (Some said) = SaysOf names places bytes said
