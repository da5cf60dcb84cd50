-- Where the parts of an encoding begin and end that a context decides.
use Rattle.std.proofs.Common.{◌≡◌, Bool, true, false, refl, ℕ, List, [], ◌++◌, ◌<◌, length, sym, ap, subst, ◌∙◌}
use Rattle.std.proofs.lemmas.List.{append_cancel_left}
use Rattle.tls_codec_grammar.specs.Tree.{Tree, Number, Empty, Join}
use Rattle.tls_codec_grammar.specs.Grammar.{Grammar, Reading, content, fields, nothing, pair}
use Rattle.tls_codec_grammar.specs.Format.{Format, content_format, counted_list_format, pair_format, triple_format}
use Rattle.tls_codec_grammar.specs.Contexts.{chosen, present_format, then_format}
use Rattle.tls_codec_grammar.specs.Field.{Field}
use Rattle.tls_codec_grammar.specs.Tagged.{Variants}
use Rattle.tls_codec_grammar.specs.Lawful.{IsLawful, MeetsFieldLaws, MeetsLaws}
use Rattle.tls_codec_grammar.specs.Decoding.{BeginsSome}
use Rattle.tls_codec_base.specs.PartNames.{IsSpelling}
use Rattle.tls_codec_validate.specs.Keys.{KeyOf}
use Rattle.tls_codec_views.proofs.Parts.{element_begins, elements_fewer, elements_left, first_begins, inside_left, others_left, second_left}
use Rattle.tls_codec_views.specs.Views.{IsAfterLength, IsEncodedFor}

-- all values that some bytes encode have the key that one of them has
pub key_of_all : {spells : Grammar} {announced : Tree → ℕ} → IsLawful spells announced → {K : Type 0} (is_key : KeyOf K) {key : K} {s : List ℕ} {v : Tree} → spells Reading s v → is_key key v → (c : Tree) → spells Reading s c → is_key key c
key_of_all l is_key {key} {s} {v} p k c q = subst (is_key key) (l.one s s [] [] v c p q refl).1 k

-- ---- the dependent pair

module _ (first : Format) (rest : Tree → Format) where
  -- the first part begins an encoding
  pub then_begins : {s : List ℕ} → IsSpelling (then_format first rest).spells s → BeginsSome first.spells s
  then_begins (Join v vs, p) = record { value = v; rest = p.rest; begins = record { front = p.front; whole = p.whole; spelled = p.first } }
  then_begins (Number n, p) = absurd p
  then_begins (Empty, p) = absurd p

  -- what is left after it is encoded as its value says
  pub then_left : MeetsLaws first → {K : Type 0} (is_key : KeyOf K) (key : K) (s front left : List ℕ) → IsSpelling (then_format first rest).spells s → s ≡ front ++ left → IsSpelling first.spells front
      → ((c : Tree) → first.spells Reading front c → is_key key c) → IsEncodedFor is_key key rest left
  then_left l is_key key s front left (Join v vs, p) whole q keys =
      let h = l.spelled.one front p.front left p.rest q.0 v q.1 p.first (sym whole ∙ p.whole) in
      let same : p.rest ≡ left = append_cancel_left p.front p.rest left (sym p.whole ∙ whole ∙ ap (λ (u : List ℕ). u ++ left) h.0) in
      (v, keys v (subst (λ (u : List ℕ). first.spells Reading u v) (sym h.0) p.first), (vs, subst (λ (u : List ℕ). (rest v).spells Reading u vs) same p.second))
  then_left l is_key key s front left (Number n, p) whole q keys = absurd p
  then_left l is_key key s front left (Empty, p) whole q keys = absurd p

-- ---- products in a context

module _ {K : Type 0} (is_key : KeyOf K) (key : K) where
  abbrev Begun : (Tree → Format) → List ℕ → Type 0
  Begun format x = (c : Tree) × is_key key c × BeginsSome (format c).spells x

  abbrev Encodes : (Tree → Format) → List ℕ → Type 0
  Encodes format x = (c : Tree) → is_key key c → IsSpelling (format c).spells x

  module _ (first second : Tree → Format) where
    pub pair_begins : {s : List ℕ} → IsEncodedFor is_key key (λ c. pair_format (first c) (second c)) s → Begun first s
    pair_begins (c, k, p) = (c, k, first_begins (first c).spells (fields (second c).spells nothing) p)

    pub pair_left : ((c : Tree) → MeetsLaws (first c)) → (s front rest : List ℕ) → IsEncodedFor is_key key (λ c. pair_format (first c) (second c)) s → s ≡ front ++ rest → Encodes first front → IsEncodedFor is_key key second rest
    pair_left l s front rest (c, k, p) whole q = (c, k, second_left (first c).spells (second c).spells (l c).spelled s front rest p whole (q c k))

    module _ (third : Tree → Format) where
      pub triple_begins : {s : List ℕ} → IsEncodedFor is_key key (λ c. triple_format (first c) (second c) (third c)) s → Begun first s
      triple_begins (c, k, p) = (c, k, first_begins (first c).spells (pair (second c).spells (third c).spells) p)

      pub triple_left : ((c : Tree) → MeetsLaws (first c)) → (s front rest : List ℕ) → IsEncodedFor is_key key (λ c. triple_format (first c) (second c) (third c)) s → s ≡ front ++ rest → Encodes first front
          → IsEncodedFor is_key key (λ c. pair_format (second c) (third c)) rest
      triple_left l s front rest (c, k, p) whole q = (c, k, others_left (first c).spells (pair (second c).spells (third c).spells) (l c).spelled s front rest p whole (q c k))

-- ---- payloads

pub payload_left : (there : Bool) (payload : Format) {s : List ℕ} → there ≡ true → IsSpelling (present_format there payload).spells s → IsSpelling payload.spells s
payload_left true payload is (Join v Empty, p) = (v, p)
payload_left true payload is (Join v (Number n), p) = absurd p
payload_left true payload is (Join v (Join w ws), p) = absurd p
payload_left true payload is (Number n, p) = absurd p
payload_left true payload is (Empty, p) = absurd p
payload_left false payload is p = absurd cc

pub payload_none : (there : Bool) (payload : Format) {s : List ℕ} → there ≡ false → IsSpelling (present_format there payload).spells s → s ≡ []
payload_none false payload is (Empty, p) = p
payload_none false payload is (Join v vs, p) = absurd p
payload_none false payload is (Number n, p) = absurd p
payload_none true payload is p = absurd cc

-- ---- elements in a row, in a context

module _ {K : Type 0} (is_key : KeyOf K) (key : K) (element : Tree → Format) where
  abbrev InARow : List ℕ → Type 0
  InARow x = IsEncodedFor is_key key (λ c. content_format (element c)) x

  -- an element begins what isn't empty
  pub row_begins : (s : List ℕ) → 0 < length s → InARow s → Begun is_key key element s
  row_begins s some (c, k, p) = (c, k, element_begins (element c).spells s some p)

  -- what is left after it are the others, and they are fewer bytes
  pub row_left : ((c : Tree) → MeetsLaws (element c)) → (s front rest : List ℕ) → InARow s → s ≡ front ++ rest → Encodes is_key key element front → InARow rest
  row_left l s front rest (c, k, p) whole q = (c, k, elements_left (element c).spells (l c).spelled s front rest p whole (q c k))

  pub row_fewer : ((c : Tree) → MeetsLaws (element c)) → (s front rest : List ℕ) → 0 < length s → InARow s → s ≡ front ++ rest → Encodes is_key key element front → length rest < length s
  row_fewer l s front rest some (c, k, p) whole q = elements_fewer (element c).spells (l c).spelled s front rest some p whole (q c k)

  -- what comes after a length that counts them
  pub row_inside : {field : Field} → MeetsFieldLaws field → (x s : List ℕ) → IsEncodedFor is_key key (λ c. counted_list_format field (element c)) x → IsAfterLength field x s → InARow s
  row_inside l x s (c, k, p) after = (c, k, inside_left (content (element c).spells) l x s p after)

pub same_length : {K : Type 0} {p q : K × List ℕ} → p ≡ q → length p.1 ≡ length q.1
same_length {K} e = ap (λ (p : K × List ℕ). length p.1) e

-- ---- a select whose tag is the context

-- what it has is what the tag's case has
pub case_parts : {K : Type 0} (is_key : KeyOf K) (key : K) (selected : Tree → ℕ) (format : Tree → Format) (variants : Variants) {s : List ℕ} {tag : ℕ} → ((c : Tree) → is_key key c → tag ≡ selected c)
    → ((c : Tree) (bytes : List ℕ) → IsSpelling (format c).spells bytes → IsSpelling (chosen (selected c) variants) bytes) → IsEncodedFor is_key key format s → IsSpelling (variants.parts tag).spells s
case_parts is_key key selected format variants {s} {tag} tags as_choice (c, k, p) = parts (as_choice c s p) where
  parts : IsSpelling (chosen (selected c) variants) s → IsSpelling (variants.parts tag).spells s
  parts (Join (Number n) vs, q) = (vs, subst (λ (m : ℕ). (variants.parts m).spells Reading s vs) (q.0 ∙ sym (tags c k)) q.1)
  parts (Join Empty vs, q) = absurd q
  parts (Join (Join v ws) vs, q) = absurd q
  parts (Number n, q) = absurd q
  parts (Empty, q) = absurd q
