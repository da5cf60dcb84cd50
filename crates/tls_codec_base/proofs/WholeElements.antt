-- Whole elements at the front of some bytes, by the laws of their spellings.
use Rattle.std.proofs.Common.{◌≡◌, ℕ, zero, suc, ◌-◌, ◌<◌, ◌≤◌, List, [], ◌∷◌, ◌++◌, length, take, drop, take-append-drop, refl, sym, ap, subst, ◌∙◌, append_assoc, arith, length-append, length-take}
use Rattle.std.proofs.lemmas.List.{append_cancel_left}
use Rattle.tls_codec_grammar.specs.Tree.{Tree, trees}
use Rattle.tls_codec_grammar.specs.Grammar.{Grammar, Reading, content}
use Rattle.tls_codec_grammar.specs.Lawful.{IsLawful}
use Rattle.tls_codec_grammar.specs.Decoding.{Begins, NoneBegins}
use Rattle.tls_codec_grammar.specs.Shortest.{IsHollow}
use Rattle.tls_codec_base.specs.WholeElements.{NoElementBegins, WholeElements}

-- each element of a content has a byte
pub content_has_bytes : {T : Type 0} (plain : T → Tree) (element : Grammar) (c : List ℕ) (xs : List T) → content element Reading c (trees plain xs) → length xs ≤ length c
content_has_bytes plain element c [] p = omega arith
content_has_bytes plain element c (x ∷ xs) p = omega (arith, content_has_bytes plain element p.rest xs p.second, p.first.1, ap length p.whole, length-append p.front p.rest)

-- the elements of a content are whole ones
pub content_is_whole : {T : Type 0} (plain : T → Tree) (element : Grammar) (c r : List ℕ) (xs : List T) → content element Reading c (trees plain xs) → NoElementBegins element r → WholeElements element (length xs) (c ++ r)
content_is_whole plain element c r [] p none = subst (NoElementBegins element) (ap (λ (u : List ℕ). u ++ r) (sym p)) none
content_is_whole plain element c r (x ∷ xs) p none = record {
  front = p.front;
  rest = p.rest ++ r;
  whole = ap (λ (u : List ℕ). u ++ r) p.whole ∙ append_assoc p.front p.rest r;
  first = ((plain x, p.first.0), p.first.1);
  second = content_is_whole plain element p.rest r xs p.second none;
}

module _ (element : Grammar) (f : Tree → ℕ) (l : IsLawful element f) where
  -- there are no more than the whole ones
  pub whole_are_most : {T : Type 0} (plain : T → Tree) (c r : List ℕ) (xs : List T) (m : ℕ) → content element Reading c (trees plain xs) → WholeElements element m (c ++ r) → length xs ≤ m
  whole_are_most plain c r [] m p w = omega arith
  whole_are_most plain c r (x ∷ xs) zero p w =
      absurd (w (record { front = p.front; rest = p.rest ++ r; whole = ap (λ (u : List ℕ). u ++ r) p.whole ∙ append_assoc p.front p.rest r; first = ((plain x, p.first.0), p.first.1); second = tt }))
  whole_are_most plain c r (x ∷ xs) (suc m) p w =
      let both : p.front ++ (p.rest ++ r) ≡ w.front ++ w.rest = sym (append_assoc p.front p.rest r) ∙ ap (λ (u : List ℕ). u ++ r) (sym p.whole) ∙ w.whole in
      let same = l.one p.front w.front (p.rest ++ r) w.rest (plain x) w.first.0.0 p.first.0 w.first.0.1 both in
      let rests : p.rest ++ r ≡ w.rest = append_cancel_left p.front (p.rest ++ r) w.rest (both ∙ ap (λ (u : List ℕ). u ++ w.rest) (sym same.0)) in
      let others = whole_are_most plain p.rest r xs m p.second (subst (WholeElements element m) (sym rests) w.second) in
      omega (arith, others)

  -- there is one number of whole ones
  pub one_number : (m n : ℕ) (x : List ℕ) → WholeElements element m x → WholeElements element n x → m ≡ n
  one_number zero zero x p q = refl
  one_number zero (suc n) x p q = absurd (p (record { front = q.front; rest = q.rest; whole = q.whole; first = q.first; second = tt }))
  one_number (suc m) zero x p q = absurd (q (record { front = p.front; rest = p.rest; whole = p.whole; first = p.first; second = tt }))
  one_number (suc m) (suc n) x p q =
      let both : p.front ++ p.rest ≡ q.front ++ q.rest = sym p.whole ∙ q.whole in
      let same = l.one p.front q.front p.rest q.rest p.first.0.0 q.first.0.0 p.first.0.1 q.first.0.1 both in
      let rests : p.rest ≡ q.rest = append_cancel_left p.front p.rest q.rest (both ∙ ap (λ (u : List ℕ). u ++ q.rest) (sym same.0)) in
      ap suc (one_number m n p.rest p.second (subst (WholeElements element n) (sym rests) q.second))

  -- if an element is spelled by no bytes, no other one begins
  pub none_after_hollow : (x : List ℕ) → IsHollow element → NoElementBegins element x
  none_after_hollow x h row =
      let same = l.one [] row.front x row.rest h.0 row.first.0.0 h.1 row.first.0.1 row.whole in
      omega (arith, row.first.1, ap length same.0)

  -- an element with more bytes than are left is no whole one of those
  pub none_fits : {left : ℕ} {x rest : List ℕ} {v : Tree} → Begins element x v rest → left < length x - length rest → NoElementBegins element (take left x)
  none_fits {left} {x} {rest} {v} b long row =
      let back : x ≡ row.front ++ (row.rest ++ drop left x) = sym (take-append-drop left x) ∙ ap (λ (u : List ℕ). u ++ drop left x) row.whole ∙ append_assoc row.front row.rest (drop left x) in
      let same = l.one b.front row.front rest (row.rest ++ drop left x) v row.first.0.0 b.spelled row.first.0.1 (sym b.whole ∙ back) in
      omega (arith, long, ap length same.0, ap length b.whole, length-append b.front rest, ap length row.whole, length-append row.front row.rest, length-take left x)

-- if nothing begins, no element does
pub none_of_none : {element : Grammar} {x : List ℕ} → NoneBegins element x → NoElementBegins element x
none_of_none none row = none row.first.0.0 row.rest (record { front = row.front; whole = row.whole; spelled = row.first.0.1 })

-- nor in fewer bytes
pub none_in_fewer : (element : Grammar) (n : ℕ) (x : List ℕ) → NoElementBegins element x → NoElementBegins element (take n x)
none_in_fewer element n x none row = none (record {
  front = row.front;
  rest = row.rest ++ drop n x;
  whole = sym (take-append-drop n x) ∙ ap (λ (u : List ℕ). u ++ drop n x) row.whole ∙ append_assoc row.front row.rest (drop n x);
  first = row.first;
  second = tt;
})
