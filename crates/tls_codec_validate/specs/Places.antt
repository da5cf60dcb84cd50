-- Which field of some bytes is rejected: by the bytes from its first one on.
use Rattle.std.specs.Prelude.{◌≡◌, ◌<◌, ◌⊎◌, ℕ, List, ◌++◌, length}
use Rattle.tls_codec_wire.specs.declared.error.Error.{Error}
use Rattle.tls_codec_wire.specs.declared.error.Error.TheVariants.{TrailingData}
use Rattle.tls_codec_grammar.specs.Grammar.{Grammar}
use Rattle.tls_codec_grammar.specs.Field.{Field}
use Rattle.tls_codec_grammar.specs.Format.{Format}
use Rattle.tls_codec_base.specs.Meanings.{SameNames}
use Rattle.tls_codec_base.specs.PartNames.{IsPayloadTag, IsRun, NamedAfter, NamedAfterLength, SliceNames, element_names, option_names, part_names}
use Rattle.tls_codec_validate.specs.declared.rejected.Rejected.{Rejected}
use Rattle.tls_codec_validate.specs.Validated.{BeginsLeaving}

-- the bytes are at the back of x
pub record IsSuffix (rest x : List ℕ) : Type 0 where
  pub front : List ℕ
  pub whole : x ≡ front ++ rest

-- which errors are named, by the bytes from the rejected field on and by all of them
abbrev pub PlacedNames : Type 1
PlacedNames = List ℕ → SliceNames

-- the error is named of x, and the field is one at which it is
pub record RejectedAt (names : SliceNames) (places : PlacedNames) (x : List ℕ) (r : Rejected) : Type 0 where
  pub named : names x r.error
  pub placed : places r.rest.now x r.error
  pub back : IsSuffix r.rest.now x

-- x begins with a spelling, and what is left after it is rejected
pub record IsTrailing (spells : Grammar) (x : List ℕ) (r : Rejected) : Type 0 where
  pub error : r.error ≡ TrailingData
  pub left : BeginsLeaving spells x r.rest.now
  pub some : 0 < length r.rest.now

-- no error is named
abbrev pub no_names : SliceNames
no_names x e = ⊥

-- the rejected field is the first one
abbrev pub here : SliceNames → PlacedNames
here names rest x e = (rest ≡ x) × names x e

-- it is the tag, or after the tag 1 it is in the payload
abbrev pub option_places : PlacedNames → PlacedNames
option_places payload rest x e = here (option_names no_names) rest x e ⊎ NamedAfter IsPayloadTag (payload rest) x e

-- it is in the element that begins x, or is that element
abbrev pub element_places : Format → PlacedNames → ℕ → PlacedNames
element_places element places left rest x e = part_names element (places rest) x e ⊎ here (element_names element no_names left) rest x e

-- after some elements it is in the next one, or is that one
abbrev pub elements_places : Format → PlacedNames → ℕ → PlacedNames
elements_places element places n rest x e = (left : ℕ) × NamedAfter (IsRun element.spells n left) (element_places element places left rest) x e

-- it is the list, whose length is refused, or after the length it is in the elements
abbrev pub counted_list_places : Field → Format → PlacedNames → PlacedNames
counted_list_places field element places rest x e =
    here field.refuses rest x e ⊎ NamedAfterLength field (λ n. elements_places element places n rest) x e

-- the same fields may be rejected, whatever the bytes
abbrev pub SamePlaces : PlacedNames → PlacedNames → Type 0
SamePlaces m n = (rest : List ℕ) → SameNames (m rest) (n rest)
