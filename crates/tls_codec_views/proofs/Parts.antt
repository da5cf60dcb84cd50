-- Where the parts of an encoding begin and end.
use Rattle.std.proofs.Common.{◌≡◌, ◌^◌, Bool, true, false, refl, ℕ, List, [], ◌∷◌, ◌++◌, ◌<◌, length, sym, ap, subst, ◌∙◌, append-nil, length-append, arith}
use Rattle.std.proofs.lemmas.List.{append_cancel_left}
use Rattle.tls_codec_wire.specs.declared.error.Error.{Error}
use Rattle.tls_codec_grammar.specs.Tree.{Tree, Number, Empty, Join}
use Rattle.tls_codec_grammar.specs.Grammar.{Grammar, Reading, content, counted, fields, nothing, number, pair}
use Rattle.tls_codec_grammar.specs.Field.{Field}
use Rattle.tls_codec_grammar.specs.Lawful.{IsLawful, MeetsFieldLaws}
use Rattle.tls_codec_grammar.specs.Format.{nothing_format}
use Rattle.tls_codec_grammar.specs.Tagged.{Variants, either_format, no_format, tagged}
use Rattle.tls_codec_grammar.specs.laws.NumberLaws.{number_lawful}
use Rattle.tls_codec_grammar.specs.Decoding.{Begins, BeginsSome}
use Rattle.tls_codec_base.specs.PartNames.{IsSpelling}
use Rattle.tls_codec_base.specs.Values.{values}
use Rattle.tls_codec_views.specs.Views.{IsAfterLength}

-- an encoding begins itself
pub begins_itself : {spells : Grammar} (s : List ℕ) (v : Tree) → spells Reading s v → Begins spells s v []
begins_itself s v p = record { front = s; whole = sym (append-nil s); spelled = p }

-- two encodings that begin the same bytes leave the same
same_left : (spells : Grammar) {announced : Tree → ℕ} → IsLawful spells announced → (front rest own left : List ℕ) → IsSpelling spells front → IsSpelling spells own → own ++ left ≡ front ++ rest → left ≡ rest
same_left spells l front rest own left p q both =
    let h = l.one own front left rest q.0 p.0 q.1 p.1 both in
    append_cancel_left own left rest (both ∙ ap (λ (u : List ℕ). u ++ rest) (sym h.0))

-- ---- products

module _ (first others : Grammar) where
  -- the first part begins an encoding of a product
  pub first_begins : {s : List ℕ} → IsSpelling (fields first others) s → BeginsSome first s
  first_begins (Join v vs, p) = record { value = v; rest = p.rest; begins = record { front = p.front; whole = p.whole; spelled = p.first } }
  first_begins (Number n, p) = absurd p
  first_begins (Empty, p) = absurd p

  -- what is left after it encodes the others
  pub others_left : {announced : Tree → ℕ} → IsLawful first announced → (s front rest : List ℕ) → IsSpelling (fields first others) s → s ≡ front ++ rest → IsSpelling first front → IsSpelling others rest
  others_left l s front rest (Join v vs, p) whole q =
      let left = same_left first l front rest p.front p.rest q (v, p.first) (sym p.whole ∙ whole) in
      (vs, subst (λ (u : List ℕ). others Reading u vs) left p.second)
  others_left l s front rest (Number n, p) whole q = absurd p
  others_left l s front rest (Empty, p) whole q = absurd p

-- the last part is all of what is left
pub last_left : (last : Grammar) {s : List ℕ} → IsSpelling (fields last nothing) s → IsSpelling last s
last_left last {s} (Join v Empty, p) =
    let whole : s ≡ p.front = p.whole ∙ ap (λ (u : List ℕ). p.front ++ u) p.second ∙ append-nil p.front in
    (v, subst (λ (u : List ℕ). last Reading u v) (sym whole) p.first)
last_left last (Join v (Number n), p) = absurd p.second
last_left last (Join v (Join w ws), p) = absurd p.second
last_left last (Number n, p) = absurd p
last_left last (Empty, p) = absurd p

-- after the first of two parts the second one is left
pub second_left : (first second : Grammar) {announced : Tree → ℕ} → IsLawful first announced → (s front rest : List ℕ) → IsSpelling (pair first second) s → s ≡ front ++ rest → IsSpelling first front → IsSpelling second rest
second_left first second l s front rest p whole q = last_left second (others_left first (fields second nothing) l s front rest p whole q)

-- ---- a tag, and the parts of its case

-- an encoding of a choice begins with a tag, and what comes after it encodes what the variant has
pub tag_begins : (k : ℕ) (variants : Variants) {s : List ℕ} → IsSpelling (tagged k variants) s → BeginsSome (number k) s
tag_begins k variants (Join (Number tag) vs, p) = record { value = Number tag; rest = p.rest; begins = record { front = p.front; whole = p.whole; spelled = p.first } }
tag_begins k variants (Join Empty vs, p) = absurd p
tag_begins k variants (Join (Join v ws) vs, p) = absurd p
tag_begins k variants (Number n, p) = absurd p
tag_begins k variants (Empty, p) = absurd p

same_number : {m n : ℕ} → Number m ≡ Number n → m ≡ n
same_number e = ap (λ (v : Tree). elim v as (λ x. ℕ) [ Number n ↦ n | Empty ↦ 0 | Join w ws ↦ 0 ]) e

-- after the tag that was found its variant's parts are left
pub parts_left : {k : ℕ} (variants : Variants) → k < 2 ^ 64 → {s left : List ℕ} {own : ℕ} → IsSpelling (tagged k variants) s → Begins (number k) s (Number own) left → IsSpelling (variants.parts own).spells left
parts_left {k} variants small {s} {left} {own} (Join (Number tag) vs, p) q =
    let both : p.front ++ p.rest ≡ q.front ++ left = sym p.whole ∙ q.whole in
    let h = (number_lawful k small).one p.front q.front p.rest left (Number tag) (Number own) p.first q.spelled both in
    let rest : p.rest ≡ left = append_cancel_left p.front p.rest left (both ∙ ap (λ (u : List ℕ). u ++ left) (sym h.0)) in
    (vs, subst (λ (u : List ℕ). (variants.parts own).spells Reading u vs) rest (subst (λ (n : ℕ). (variants.parts n).spells Reading p.rest vs) (same_number h.1) p.second))
parts_left variants small (Join Empty vs, p) q = absurd p
parts_left variants small (Join (Join v ws) vs, p) q = absurd p
parts_left variants small (Number n, p) q = absurd p
parts_left variants small (Empty, p) q = absurd p

-- ---- a number that has a value

known_number : (left : List ℕ) (b : Bool) → IsSpelling (either_format b nothing_format no_format).spells left → b ≡ true
known_number left true p = refl
known_number left false (v, p) = absurd p

nothing_read : (left : List ℕ) (b : Bool) → IsSpelling (either_format b nothing_format no_format).spells left → (either_format b nothing_format no_format).spells Reading left Empty
nothing_read left true (Empty, p) = p
nothing_read left true (Number n, p) = absurd p
nothing_read left true (Join v vs, p) = absurd p
nothing_read left false (v, p) = absurd p

module _ {k : ℕ} (has : ℕ → Bool) (small : k < 2 ^ 64) {s left : List ℕ} {own : ℕ} (p : IsSpelling (tagged k (values has)) s) (q : Begins (number k) s (Number own) left) where
  -- the number that was found is that of a value
  pub number_known : has own ≡ true
  number_known = known_number left (has own) (parts_left (values has) small p q)

  -- and it is what is encoded
  pub number_read : tagged k (values has) Reading s (Join (Number own) Empty)
  number_read = record { front = q.front; rest = left; whole = q.whole; first = q.spelled; second = nothing_read left (has own) (parts_left (values has) small p q) }

-- ---- elements in a row

nothing_after : (front rest : List ℕ) → [] ≡ front ++ rest → rest ≡ []
nothing_after [] rest none = sym none
nothing_after (b ∷ bs) rest none = absurd cc

module _ (element : Grammar) where
  -- an element begins what isn't empty
  pub element_begins : (s : List ℕ) → 0 < length s → IsSpelling (content element) s → BeginsSome element s
  element_begins s some (Join v vs, p) = record { value = v; rest = p.rest; begins = record { front = p.front; whole = p.whole; spelled = p.first.0 } }
  element_begins s some (Number n, p) = absurd p
  element_begins s some (Empty, p) = absurd (omega (arith, some, ap length p))

  -- what is left after it are the others
  pub elements_left : {announced : Tree → ℕ} → IsLawful element announced → (s front rest : List ℕ) → IsSpelling (content element) s → s ≡ front ++ rest → IsSpelling element front → IsSpelling (content element) rest
  elements_left l s front rest (Join v vs, p) whole q =
      let left = same_left element l front rest p.front p.rest q (v, p.first.0) (sym p.whole ∙ whole) in
      (vs, subst (λ (u : List ℕ). content element Reading u vs) left p.second)
  elements_left l s front rest (Number n, p) whole q = absurd p
  elements_left l s front rest (Empty, p) whole q = (Empty, nothing_after front rest (sym p ∙ whole))

  -- and they are fewer bytes
  pub elements_fewer : {announced : Tree → ℕ} → IsLawful element announced → (s front rest : List ℕ) → 0 < length s → IsSpelling (content element) s → s ≡ front ++ rest → IsSpelling element front → length rest < length s
  elements_fewer l s front rest some (Join v vs, p) whole q =
      let left = same_left element l front rest p.front p.rest q (v, p.first.0) (sym p.whole ∙ whole) in
      omega (arith, p.first.1, ap length left, ap length p.whole, length-append p.front p.rest)
  elements_fewer l s front rest some (Number n, p) whole q = absurd p
  elements_fewer l s front rest some (Empty, p) whole q = absurd (omega (arith, some, ap length p))

-- ---- lengths

-- a length says where what it counts begins
pub same_inside : {field : Field} → MeetsFieldLaws field → (x count inside other : List ℕ) (n : ℕ) → x ≡ count ++ inside → field.spells count n → IsAfterLength field x other → inside ≡ other
same_inside {field} l x count inside other n whole counts p =
    let both : count ++ inside ≡ p.count ++ other = sym whole ∙ p.whole in
    let h = l.counts.one count p.count inside other n (length other) counts p.counts both in
    append_cancel_left count inside other (both ∙ ap (λ (u : List ℕ). u ++ other) (sym h.0))

-- what comes after the length of an encoding encodes what that counts
pub inside_left : {field : Field} (inside : Grammar) → MeetsFieldLaws field → (x s : List ℕ) → IsSpelling (counted field.spells inside) x → IsAfterLength field x s → IsSpelling inside s
inside_left inside l x s (v, p) after =
    (v, subst (λ (u : List ℕ). inside Reading u v) (same_inside l x p.count p.inside s (length p.inside) p.whole p.counts after) p.is_inside)

-- no length refuses what one begins
pub is_length : {field : Field} → MeetsFieldLaws field → {x inside : List ℕ} {e : Error} → field.refuses x e → IsAfterLength field x inside → ⊥
is_length l {x} {inside} {e} refused p = l.none x e refused (length inside) inside (record { front = p.count; whole = p.whole; spelled = p.counts })
