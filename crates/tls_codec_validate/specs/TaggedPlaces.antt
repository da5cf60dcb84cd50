-- Which field of an enum's bytes is rejected.
use Rattle.std.specs.Prelude.{◌≡◌, ◌<◌, ◌⊎◌, ◌==◌, nat_le, ℕ, List, ◌++◌, length, Bool, true, false}
use Rattle.tls_codec_wire.specs.Digits.{Digits}
use Rattle.tls_codec_wire.specs.declared.error.Error.{Error}
use Rattle.tls_codec_wire.specs.declared.error.Error.TheVariants.{EndOfStream, UnknownValue}
use Rattle.tls_codec_base.specs.PartNames.{SliceNames}
use Rattle.tls_codec_validate.specs.declared.rejected.Rejected.{Rejected}
use Rattle.tls_codec_validate.specs.Places.{IsSuffix, PlacedNames, SamePlaces, here}

-- the same after a tag, by the bytes from the tag on and by those after it
abbrev pub VariantPlaces : Type 1
VariantPlaces = ℕ → List ℕ → PlacedNames

-- a variant without parts is never rejected after its tag
abbrev pub nothing_places : PlacedNames
nothing_places rest x e = ⊥

-- a tag that no variant has is the rejected field
abbrev pub no_variant_places : VariantPlaces
no_variant_places tag whole rest x e = (rest ≡ whole) × (e ≡ UnknownValue tag)

abbrev pub either_places : Bool → PlacedNames → PlacedNames → PlacedNames
either_places true these those = these
either_places false these those = those

-- after this tag the rejected field is in these parts, and after another one in those of the others
abbrev pub variant_places : ℕ → PlacedNames → VariantPlaces → VariantPlaces
variant_places own parts others tag whole = either_places (tag == own) parts (others tag whole)

-- a tag of k bytes begins x, and the rejected field is it or after it
pub record PlacedAfterTag (k : ℕ) (variants : VariantPlaces) (rest x : List ℕ) (e : Error) : Type 0 where
  pub tag : ℕ
  pub front : List ℕ
  pub parts : List ℕ
  pub whole : x ≡ front ++ parts
  pub is_tag : Digits k front tag
  pub placed : variants tag x rest parts e

-- there is no tag in k bytes, which is the rejected field, or there is one
abbrev pub tagged_places : ℕ → VariantPlaces → PlacedNames
tagged_places k variants rest x e = here (λ y error. (error ≡ EndOfStream) × (length y < k)) rest x e ⊎ PlacedAfterTag k variants rest x e

-- a number that is none of the values is the rejected field
abbrev pub values_places : ℕ → (ℕ → Bool) → PlacedNames
values_places k has = tagged_places k (λ tag whole rest x e. (rest ≡ whole) × (has tag ≡ false) × (e ≡ UnknownValue tag))

-- ---- the same of sums of cases

-- after a tag of the first cases it is in their parts, and after another one in those of the others
abbrev pub or_places : (ℕ → Bool) → VariantPlaces → VariantPlaces → VariantPlaces
or_places has these those tag whole = either_places (has tag) (these tag whole) (those tag whole)

-- after each tag up to the greatest it is in these parts
abbrev pub others_places : ℕ → PlacedNames → VariantPlaces
others_places most parts tag whole = either_places (nat_le tag most) parts (no_variant_places tag whole)

-- cases that aren't told apart are rejected as a whole
abbrev pub choice_places : Bool → ℕ → VariantPlaces → PlacedNames
choice_places sound k places = either_places sound (tagged_places k places) (here (λ x e. e ≡ UnknownValue 0))

-- after a tag the error is named, and the field is one at which it is, in the parts or the tag itself
pub record PartsRejectedAt (names : SliceNames) (places : PlacedNames) (whole x : List ℕ) (r : Rejected) : Type 0 where
  pub named : names x r.error
  pub placed : places r.rest.now x r.error
  pub back : IsSuffix r.rest.now x ⊎ (r.rest.now ≡ whole)

-- the parts of the case that a context names: a case that isn't there is rejected at the first byte of its parts
abbrev pub select_places : Bool → ℕ → VariantPlaces → PlacedNames
select_places sound tag places = either_places sound (λ rest x. places tag x rest x) (here (λ x e. e ≡ UnknownValue 0))

-- the same fields may be rejected after each tag
abbrev pub SameVariantPlaces : VariantPlaces → VariantPlaces → Type 0
SameVariantPlaces m n = (tag : ℕ) (whole : List ℕ) → SamePlaces (m tag whole) (n tag whole)
