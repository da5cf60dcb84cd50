-- Which field of a value inside a length is rejected.
use Rattle.std.specs.Prelude.{◌≡◌, ◌<◌, ◌⊎◌, ℕ, List, ◌++◌, length}
use Rattle.tls_codec_wire.specs.declared.error.Error.{Error}
use Rattle.tls_codec_wire.specs.declared.error.Error.TheVariants.{TrailingData}
use Rattle.tls_codec_grammar.specs.Field.{Field}
use Rattle.tls_codec_grammar.specs.Format.{Format}
use Rattle.tls_codec_base.specs.PartNames.{NamedAfterLength, SliceNames}
use Rattle.tls_codec_validate.specs.Validated.{BeginsLeaving}
use Rattle.tls_codec_validate.specs.Places.{PlacedNames, here}

-- the length is refused, or fewer bytes come than it says
abbrev pub length_names : Field → SliceNames
length_names field x e = field.refuses x e ⊎ NamedAfterLength field (λ n y error. (length y < n) × field.cut_off error) x e

-- the rejected field is in the first n bytes of x, or is what is left of them after a value
pub record PlacedWithin (f : Format) (places : PlacedNames) (n : ℕ) (rest x : List ℕ) (e : Error) : Type 0 where
  pub inside : List ℕ
  pub after : List ℕ
  pub left : List ℕ
  pub whole : x ≡ inside ++ after
  pub fills : length inside ≡ n
  pub at_left : rest ≡ left ++ after
  pub placed : places left inside e ⊎ ((e ≡ TrailingData) × BeginsLeaving f.spells inside left)

-- it is the length, or after the length it is within what that counts
abbrev pub enclosed_places : Field → Format → PlacedNames → PlacedNames
enclosed_places field f places rest x e =
    here (length_names field) rest x e ⊎ NamedAfterLength field (λ n. PlacedWithin f places n rest) x e
