-- The laws of options, from those of the payload.
use Rattle.std.proofs.Common.{◌≡◌, ℕ, List, ◌∷◌, ◌++◌, length, refl, sym, ap, ◌∙◌, inl, inr, arith}
use Rattle.tls_codec_grammar.specs.Tree.{Tree, Empty, Join}
use Rattle.tls_codec_grammar.specs.Grammar.{Grammar, Reading, Writing, option}
use Rattle.tls_codec_grammar.specs.Shortest.{IsShortest}
use Rattle.tls_codec_grammar.specs.Announced.{capped, option_length}
use Rattle.tls_codec_grammar.specs.Lawful.{IsLawful}

-- the byte 1 and then the payload's shortest form are the shortest form of a payload
pub option_some : (payload : Grammar) (v : Tree) (a : List ℕ) → IsShortest payload a v → IsShortest (option payload) (1 ∷ a) (Join v Empty)
option_some payload v a p = record {
  spelled = (a, refl, p.spelled);
  least = λ t q. elim (p.least q.0 q.2) [
    | inl e ↦ inl (q.1 ∙ ap (λ (u : List ℕ). 1 ∷ u) e)
    | inr lt ↦ inr (omega (arith, lt, ap length q.1))
  ];
}

module _ (payload : Grammar) (f : Tree → ℕ) (l : IsLawful payload f) where
  option_one : (s t x y : List ℕ) (v w : Tree) → option payload Reading s v → option payload Reading t w → s ++ x ≡ t ++ y → (s ≡ t) × (v ≡ w)
  option_one s t x y Empty Empty p q e = (p ∙ sym q, refl)
  option_one s t x y Empty (Join w Empty) p q e =
      let h : 0 ∷ x ≡ 1 ∷ (q.0 ++ y) = sym (ap (λ (u : List ℕ). u ++ x) p) ∙ e ∙ ap (λ (u : List ℕ). u ++ y) q.1 in
      absurd cc
  option_one s t x y (Join v Empty) Empty p q e =
      let h : 1 ∷ (p.0 ++ x) ≡ 0 ∷ y = sym (ap (λ (u : List ℕ). u ++ x) p.1) ∙ e ∙ ap (λ (u : List ℕ). u ++ y) q in
      absurd cc
  option_one s t x y (Join v Empty) (Join w Empty) p q e =
      let d : 1 ∷ (p.0 ++ x) ≡ 1 ∷ (q.0 ++ y) = sym (ap (λ (u : List ℕ). u ++ x) p.1) ∙ e ∙ ap (λ (u : List ℕ). u ++ y) q.1 in
      let h = l.one p.0 q.0 x y v w p.2 q.2 cc in
      (p.1 ∙ ap (λ (u : List ℕ). 1 ∷ u) h.0 ∙ sym q.1, ap (λ (u : Tree). Join u Empty) h.1)
  option_one s t x y _ _ p q e = absurd search

  option_alone : (s t : List ℕ) (v : Tree) → option payload Writing s v → option payload Writing t v → s ≡ t
  option_alone s t Empty p q = p ∙ sym q
  option_alone s t (Join v Empty) p q = p.1 ∙ ap (λ (u : List ℕ). 1 ∷ u) (l.alone p.0 q.0 v p.2 q.2) ∙ sym q.1
  option_alone s t _ p q = absurd p

  option_written : (s : List ℕ) (v : Tree) → option payload Reading s v → option payload Writing s v
  option_written s Empty p = p
  option_written s (Join v Empty) p = (p.0, p.1, l.written p.0 v p.2)
  option_written s _ p = absurd p

  option_announces : (s : List ℕ) (v : Tree) → option payload Writing s v → option_length f v ≡ capped (length s)
  option_announces s Empty p = omega (arith, ap length p)
  option_announces s (Join v Empty) p = omega (arith, ap length p.1, l.announces p.0 v p.2)
  option_announces s _ p = absurd p

  -- options of a lawful payload meet the laws
  pub option_lawful : IsLawful (option payload) (option_length f)
  option_lawful = record { one = option_one; alone = option_alone; written = option_written; announces = option_announces }
