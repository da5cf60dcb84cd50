-- The laws of bytes with their type after them: the type is the last byte that isn't zero.
use Rattle.std.proofs.Common.{◌≡◌, ◌≢◌, ℕ, List, [], ◌∷◌, ◌++◌, length, inl, inr, refl, sym, ap, subst, ◌∙◌, arith, length-append}
use Rattle.std.specs.Prelude.{All}
use Rattle.std.proofs.lemmas.List.{append_cancel_left}
use Rattle.std.proofs.lemmas.List.Elements.{All-head, All-tail}
use Rattle.tls_codec_wire.specs.declared.error.Error.{Error}
use Rattle.tls_codec_wire.specs.declared.error.Error.TheVariants.{OutOfMemory}
use Rattle.tls_codec_grammar.specs.Tree.{Tree, Number, Join, number_trees}
use Rattle.tls_codec_grammar.specs.Grammar.{Reading, Writing}
use Rattle.tls_codec_grammar.specs.Shortest.{HasNoSpelling}
use Rattle.tls_codec_grammar.specs.Announced.{capped}
use Rattle.tls_codec_grammar.specs.Format.{Format}
use Rattle.tls_codec_grammar.specs.Lawful.{MeetsLaws, MeetsLawsInside}
use Rattle.tls_codec_grammar.specs.laws.RowLaws.{row_alone, row_map}
use Rattle.tls_codec_grammar.specs.laws.InsideLaws.{bytes_to_end_meet}
use Rattle.tls_codec_grammar.proofs.ByteContents.{content_bytes}
use Rattle.tls_codec_cases.specs.Padded.{padded_format, padded_meets}
use Rattle.tls_codec_cases.specs.Inner.{IsNonzero, inner_format, nonzero_format}

pub nonzero_meets : {kind : Format} → MeetsLaws kind → MeetsLaws (nonzero_format kind)
nonzero_meets {kind} l = record {
  spelled = record {
    one = λ s t x y v w p q. l.spelled.one s t x y v w p.0 q.0;
    alone = λ s t v p q. l.spelled.alone s t v p.0 q.0;
    written = λ s v p. (l.spelled.written s v p.0, p.1);
    announces = λ s v p. l.spelled.announces s v p.0;
  };
  unspelled = unspelled;
  not_memory = not_memory;
  outside = λ v p. absurd p;
}
  where
    unspelled : (v : Tree) (e : Error) → (nonzero_format kind).refuses v e → HasNoSpelling (nonzero_format kind).spells v
    unspelled v e (inl p) s q = l.unspelled v e p s q.0
    unspelled v e (inr p) s q = p.1 s q

    not_memory : (v : Tree) → (nonzero_format kind).refuses v OutOfMemory → ⊥
    not_memory v (inl p) = l.not_memory v p
    not_memory v (inr p) = p.0

-- ---- the last byte that isn't zero

-- zeros have no other byte
pub none_other : (bs : List ℕ) (y : ℕ) (zs : List ℕ) → All (λ b. b ≡ 0) (bs ++ y ∷ zs) → y ≡ 0
none_other [] y zs p = All-head (λ b. b ≡ 0) y zs p
none_other (b ∷ bs) y zs p = none_other bs y zs (All-tail (λ b. b ≡ 0) b (bs ++ y ∷ zs) p)

-- so what is before that byte is the same, and it is
last_one : (a b : List ℕ) (x y : ℕ) (zs ws : List ℕ) → x ≢ 0 → y ≢ 0 → All (λ b. b ≡ 0) zs → All (λ b. b ≡ 0) ws
    → a ++ x ∷ zs ≡ b ++ y ∷ ws → (a ≡ b) × (x ≡ y)
last_one [] [] x y zs ws some other p q e = (refl, cc)
last_one [] (b ∷ bs) x y zs ws some other p q e =
    let tails : zs ≡ bs ++ y ∷ ws = cc in
    absurd (other (none_other bs y ws (subst (All (λ b. b ≡ 0)) tails p)))
last_one (a ∷ as') [] x y zs ws some other p q e =
    let tails : ws ≡ as' ++ x ∷ zs = cc in
    absurd (some (none_other as' x zs (subst (All (λ b. b ≡ 0)) tails q)))
last_one (a ∷ as') (b ∷ bs) x y zs ws some other p q e =
    let tails : as' ++ x ∷ zs ≡ bs ++ y ∷ ws = cc in
    let h = last_one as' bs x y zs ws some other p q tails in
    (cc h.0, h.1)

pub last_same : (a b : List ℕ) {s t : List ℕ} (zs ws : List ℕ) → (p : IsNonzero s) → (q : IsNonzero t) → All (λ b. b ≡ 0) zs → All (λ b. b ≡ 0) ws
    → a ++ (s ++ zs) ≡ b ++ (t ++ ws) → (a ≡ b) × (s ≡ t)
last_same a b {s} {t} zs ws p q h k e =
    let one : s ++ zs ≡ p.byte ∷ zs = ap (λ (u : List ℕ). u ++ zs) p.is in
    let other : t ++ ws ≡ q.byte ∷ ws = ap (λ (u : List ℕ). u ++ ws) q.is in
    let same = last_one a b p.byte q.byte zs ws p.some q.some h k (ap (λ (u : List ℕ). a ++ u) (sym one) ∙ e ∙ ap (λ (u : List ℕ). b ++ u) other) in
    (same.0, p.is ∙ ap (λ (n : ℕ). n ∷ []) same.1 ∙ sym q.is)

-- ---- the whole

module _ {kind : Format} (l : MeetsLaws kind) where
  pub ending_meets : MeetsLawsInside (padded_format (nonzero_format kind))
  ending_meets = padded_meets (nonzero_meets l)

  pub inner_meets : MeetsLawsInside (inner_format kind)
  inner_meets = record {
    spelled = record { same = same; alone = alone; written = written; announces = announces };
    unspelled = unspelled;
    not_memory = not_memory;
  }
    where
      same : (c : List ℕ) (v w : Tree) → (inner_format kind).spells Reading c v → (inner_format kind).spells Reading c w → v ≡ w
      same c (Join v (Join t (Number m))) (Join w (Join u (Number n))) p q =
          let long : p.front ++ p.rest ≡ q.front ++ q.rest = sym p.whole ∙ q.whole in
          let fronts = last_same p.front q.front _ _ p.second.first.1 q.second.first.1 p.second.second.1 q.second.second.1 (ap (λ (s : List ℕ). p.front ++ s) (sym p.second.whole) ∙ long ∙ ap (λ (s : List ℕ). q.front ++ s) q.second.whole) in
          let rests : p.rest ≡ q.rest = append_cancel_left p.front p.rest q.rest (long ∙ ap (λ (s : List ℕ). s ++ q.rest) (sym fronts.0)) in
          let contents : v ≡ w = content_bytes Reading p.front v p.first ∙ ap number_trees fronts.0 ∙ sym (content_bytes Reading q.front w q.first) in
          let endings : Join t (Number m) ≡ Join u (Number n) = ending_meets.spelled.same q.rest (Join t (Number m)) (Join u (Number n)) (subst (λ (s : List ℕ). (padded_format (nonzero_format kind)).spells Reading s (Join t (Number m))) rests p.second) q.second in
          ap (λ (s : Tree). Join s (Join t (Number m))) contents ∙ ap (λ (s : Tree). Join w s) endings
      same c _ _ p q = absurd search

      alone : (c d : List ℕ) (v : Tree) → (inner_format kind).spells Writing c v → (inner_format kind).spells Writing d v → c ≡ d
      alone c d (Join v vs) p q = row_alone _ _ c d (λ a b. bytes_to_end_meet.spelled.alone a b v) (λ a b. ending_meets.spelled.alone a b vs) p q
      alone c d _ p q = absurd p

      written : (c : List ℕ) (v : Tree) → (inner_format kind).spells Reading c v → (inner_format kind).spells Writing c v
      written c (Join v vs) p = row_map _ _ _ _ c (λ t q. bytes_to_end_meet.spelled.written t v q) (λ t q. ending_meets.spelled.written t vs q) p
      written c _ p = absurd p

      announces : (c : List ℕ) (v : Tree) → (inner_format kind).spells Writing c v → (inner_format kind).announced v ≡ capped (length c)
      announces c (Join v vs) p =
          let size = length-append p.front p.rest in
          omega (arith, ap length p.whole, size, bytes_to_end_meet.spelled.announces p.front v p.first, ending_meets.spelled.announces p.rest vs p.second)
      announces c _ p = absurd p

      unspelled : (v : Tree) (e : Error) → (inner_format kind).refuses v e → HasNoSpelling (inner_format kind).spells v
      unspelled (Join v vs) e (inl p) s q = bytes_to_end_meet.unspelled v e p q.front q.first
      unspelled (Join v vs) e (inr p) s q = ending_meets.unspelled vs e p q.rest q.second
      unspelled _ e p s q = absurd search

      not_memory : (v : Tree) → (inner_format kind).refuses v OutOfMemory → ⊥
      not_memory (Join v vs) (inl p) = bytes_to_end_meet.not_memory v p
      not_memory (Join v vs) (inr p) = ending_meets.not_memory vs p
      not_memory _ p = absurd search
