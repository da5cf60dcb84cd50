-- Fields of a message, by their places in its bytes.
use Rattle.std.specs.Prelude.{◌≡◌, ◌≤◌, ◌+◌, ◌-◌, ℕ, List, length, take, drop}
use Rattle.tls_codec_grammar.specs.Tree.{Number, number_trees}
use Rattle.tls_codec_grammar.specs.Grammar.{Reading, number}
use Rattle.tls_codec_grammar.specs.Field.{Field}
use Rattle.tls_codec_grammar.specs.Format.{Format, counted_bytes_format}
use Rattle.tls_codec_grammar.specs.Decoding.{Begins, BeginsSome}
use Rattle.tls_codec_base.specs.PartNames.{IsSpelling}
use Rattle.tls_codec_outcome.specs.declared.fields.Span.{Span}

-- n bytes of x from a place on
abbrev pub bytes_at : ℕ → ℕ → List ℕ → List ℕ
bytes_at from size x = take size (drop from x)

-- an encoding begins at the place
pub record BeginsAt (f : Format) (x : List ℕ) (from : ℕ) : Type 0 where
  pub within : from ≤ length x
  pub begins : BeginsSome f.spells (drop from x)

-- of an encoding that the bytes begin with, this was found
abbrev pub Located : {Found : Type 0} → Format → (List ℕ → Found → Type 0) → List ℕ → Found → Type 0
Located f are x found = BeginsAt f x 0 → are x found

-- the bytes there are an encoding
pub record IsField (f : Format) (x : List ℕ) (from size : ℕ) : Type 0 where
  pub within : from + size ≤ length x
  pub spelled : IsSpelling f.spells (bytes_at from size x)

-- a length is at `from`, and the bytes at `offset` are those that it counts: together they are the encoding of these bytes
pub record IsContent (field : Field) (x : List ℕ) (from offset size : ℕ) : Type 0 where
  pub after : from ≤ offset
  pub within : offset + size ≤ length x
  pub spelled : (counted_bytes_format field).spells Reading (bytes_at from (offset + size - from) x) (number_trees (bytes_at offset size x))

-- the tag of k bytes that begins at the place
pub record IsTagAt (k : ℕ) (x : List ℕ) (from tag : ℕ) : Type 0 where
  pub rest : List ℕ
  pub begins : Begins (number k) (drop from x) (Number tag) rest

-- ---- by spans

abbrev pub span_end : Span → ℕ
span_end span = span.offset + span.size

-- the field at `from` is the span
abbrev pub IsFieldFrom : Format → List ℕ → ℕ → Span → Type 0
IsFieldFrom f x from span = (span.offset ≡ from) × IsField f x from span.size

-- the bytes after the length at `from` are the span
abbrev pub IsContentFrom : Field → List ℕ → ℕ → Span → Type 0
IsContentFrom field x from span = IsContent field x from span.offset span.size
