-- Formats that a value decides which was read before: what comes first in the same struct, or a context that another
-- struct gives (RFC 8446, sections 3.8 and 4; RFC 9420, section 6).
use Rattle.std.specs.Prelude.{◌≡◌, ◌≢◌, ◌==◌, ◌⊎◌, ℕ, [], Bool, true, false, codes}
use Rattle.tls_codec_wire.specs.declared.error.Error.{Error}
use Rattle.tls_codec_wire.specs.declared.error.Error.TheVariants.{EncodingError}
use Rattle.tls_codec_grammar.specs.Tree.{Tree, Number, Empty, Join}
use Rattle.tls_codec_grammar.specs.Grammar.{Grammar, fields}
use Rattle.tls_codec_grammar.specs.Announced.{fields_length}
use Rattle.tls_codec_grammar.specs.Format.{Format}
use Rattle.tls_codec_grammar.specs.Lawful.{MeetsLaws}
use Rattle.tls_codec_grammar.specs.Tagged.{Variants}

-- ---- the dependent pair: a first part, whose value decides the format of the others

abbrev pub followed : Grammar → (Tree → Grammar) → Grammar
followed first rest d b (Join v vs) = fields first (rest v) d b (Join v vs)
followed first rest d b _ = ⊥

abbrev pub followed_length : (Tree → ℕ) → (Tree → Tree → ℕ) → Tree → ℕ
followed_length first rest (Join v vs) = fields_length first (rest v) (Join v vs)
followed_length first rest _ = 0

-- the parts' errors are passed on
abbrev pub followed_refuses : (Tree → Error → Type 0) → (Tree → Tree → Error → Type 0) → Tree → Error → Type 0
followed_refuses first rest (Join v vs) e = first v e ⊎ rest v vs e
followed_refuses first rest _ e = ⊥

-- at a value of the first part it is the struct of this part and of those that the value decides; some of them may take memory
abbrev pub then_format : Format → (Tree → Format) → Format
then_format first rest = record {
  spells = followed first.spells (λ v. (rest v).spells);
  announced = followed_length first.announced (λ v. (rest v).announced);
  lean = false;
  refuses = followed_refuses first.refuses (λ v. (rest v).refuses);
  out_of_bounds = λ v. ⊥;
}

-- ---- what a context decides

-- each format of a family meets the laws, whatever the context stands for
abbrev pub EachMeetsLaws : (Tree → Format) → Type 0
EachMeetsLaws family = (c : Tree) → MeetsLaws (family c)

-- the context is this number; and the enum's value that has this tag
abbrev pub is_number : ℕ → Tree → Bool
is_number n (Number m) = m == n
is_number n _ = false

abbrev pub has_tag : ℕ → Tree → Bool
has_tag n (Join (Number tag) vs) = tag == n
has_tag n _ = false

-- the refusal of a value that isn't the one that its context asks for
abbrev pub DoesNotFit : Error → Type 0
DoesNotFit (EncodingError text) = text.now ≡ codes "value does not fit its context"
DoesNotFit _ = ⊥

-- ---- a payload that is there or not, as the context says: no byte shows it

abbrev pub present : Bool → Grammar → Grammar
present true payload d b (Join v Empty) = payload d b v
present false payload d b Empty = b ≡ []
present _ payload d b _ = ⊥

abbrev pub present_length : (Tree → ℕ) → Tree → ℕ
present_length payload (Join v Empty) = payload v
present_length payload _ = 0

-- a payload is missing, or is there and should not be; the errors of one that should be are passed on
abbrev pub present_refuses : Bool → (Tree → Error → Type 0) → Tree → Error → Type 0
present_refuses true payload (Join v Empty) e = payload v e
present_refuses true payload Empty e = DoesNotFit e
present_refuses false payload (Join v Empty) e = DoesNotFit e
present_refuses _ payload _ e = ⊥

abbrev pub present_format : Bool → Format → Format
present_format there payload = record {
  spells = present there payload.spells;
  announced = present_length payload.announced;
  lean = payload.lean;
  refuses = present_refuses there payload.refuses;
  out_of_bounds = λ v. ⊥;
}

-- ---- a select whose tag is elsewhere: the parts of the variant that has the tag n. A value names
-- ---- its tag, and no byte shows it; so a value of another variant has no spelling, even if its
-- ---- parts have the same form

abbrev pub chosen : ℕ → Variants → Grammar
chosen n variants d b (Join (Number tag) vs) = (tag ≡ n) × (variants.parts tag).spells d b vs
chosen n variants d b _ = ⊥

abbrev pub chosen_length : Variants → Tree → ℕ
chosen_length variants (Join (Number tag) vs) = (variants.parts tag).announced vs
chosen_length variants _ = 0

-- the variant is another one; the errors of the right one's parts are passed on
abbrev pub chosen_refuses : ℕ → Variants → Tree → Error → Type 0
chosen_refuses n variants (Join (Number tag) vs) e = ((tag ≡ n) × (variants.parts tag).refuses vs e) ⊎ ((tag ≢ n) × DoesNotFit e)
chosen_refuses n variants _ e = ⊥

abbrev pub chosen_format : ℕ → Variants → Format
chosen_format n variants = record {
  spells = chosen n variants;
  announced = chosen_length variants;
  lean = variants.lean;
  refuses = chosen_refuses n variants;
  out_of_bounds = λ v. ⊥;
}
