-- The laws of what a context decides, from those of its parts.
use Rattle.std.proofs.Common.{◌≡◌, ℕ, List, ◌++◌, length, Bool, true, false, inl, inr, refl, sym, ap, subst, ◌∙◌, arith}
use Rattle.tls_codec_wire.specs.declared.error.Error.{Error}
use Rattle.tls_codec_wire.specs.declared.error.Error.TheVariants.{OutOfMemory}
use Rattle.tls_codec_grammar.specs.Tree.{Tree, Number, Empty, Join}
use Rattle.tls_codec_grammar.specs.Grammar.{Reading, Writing}
use Rattle.tls_codec_grammar.specs.Shortest.{HasNoSpelling}
use Rattle.tls_codec_grammar.specs.Announced.{capped}
use Rattle.tls_codec_grammar.specs.Format.{Format}
use Rattle.tls_codec_grammar.specs.Lawful.{MeetsLaws}
use Rattle.tls_codec_grammar.specs.Tagged.{MeetsVariantLaws, Variants}
use Rattle.tls_codec_grammar.specs.Contexts.{DoesNotFit, chosen, chosen_format, chosen_length, chosen_refuses, present, present_format, present_length, present_refuses}

-- ---- a payload that is there or not

fits_memory : DoesNotFit OutOfMemory → ⊥
fits_memory p = p

module _ (payload : Format) (l : MeetsLaws payload) where
  present_one : (there : Bool) (s t x y : List ℕ) (v w : Tree) → present there payload.spells Reading s v
      → present there payload.spells Reading t w → s ++ x ≡ t ++ y → (s ≡ t) × (v ≡ w)
  present_one true s t x y (Join v Empty) (Join w Empty) p q e =
      let h = l.spelled.one s t x y v w p q e in
      (h.0, ap (λ (u : Tree). Join u Empty) h.1)
  present_one false s t x y Empty Empty p q e = (p ∙ sym q, refl)
  present_one _ s t x y _ _ p q e = absurd search

  present_alone : (there : Bool) (s t : List ℕ) (v : Tree) → present there payload.spells Writing s v
      → present there payload.spells Writing t v → s ≡ t
  present_alone true s t (Join v Empty) p q = l.spelled.alone s t v p q
  present_alone false s t Empty p q = p ∙ sym q
  present_alone _ s t _ p q = absurd search

  present_written : (there : Bool) (s : List ℕ) (v : Tree) → present there payload.spells Reading s v
      → present there payload.spells Writing s v
  present_written true s (Join v Empty) p = l.spelled.written s v p
  present_written false s Empty p = p
  present_written _ s _ p = absurd search

  present_announces : (there : Bool) (s : List ℕ) (v : Tree) → present there payload.spells Writing s v
      → present_length payload.announced v ≡ capped (length s)
  present_announces true s (Join v Empty) p = l.spelled.announces s v p
  present_announces false s Empty p = omega (arith, ap length p)
  present_announces _ s _ p = absurd search

  present_unspelled : (there : Bool) (v : Tree) (e : Error) → present_refuses there payload.refuses v e
      → HasNoSpelling (present there payload.spells) v
  present_unspelled true (Join v Empty) e p s q = l.unspelled v e p s q
  present_unspelled true Empty e p s q = q
  present_unspelled false (Join v Empty) e p s q = q
  present_unspelled _ _ e p s q = absurd search

  present_not_memory : (there : Bool) (v : Tree) → present_refuses there payload.refuses v OutOfMemory → ⊥
  present_not_memory true (Join v Empty) p = l.not_memory v p
  present_not_memory true Empty p = p
  present_not_memory false (Join v Empty) p = p
  present_not_memory _ _ p = absurd search

  present_all : (there : Bool) → MeetsLaws (present_format there payload)
  present_all there = record {
    spelled = record {
      one = present_one there;
      alone = present_alone there;
      written = present_written there;
      announces = present_announces there;
    };
    unspelled = present_unspelled there;
    not_memory = present_not_memory there;
    outside = λ v p. absurd p;
  }

pub present_meets : (there : Bool) {payload : Format} → MeetsLaws payload → MeetsLaws (present_format there payload)
present_meets there {payload} l = present_all payload l there

-- ---- a select whose tag is elsewhere

module _ (n : ℕ) (variants : Variants) (l : MeetsVariantLaws variants) where
  chosen_one : (s t x y : List ℕ) (v w : Tree) → chosen n variants Reading s v → chosen n variants Reading t w
      → s ++ x ≡ t ++ y → (s ≡ t) × (v ≡ w)
  chosen_one s t x y (Join (Number i) vs) (Join (Number j) ws) p q e =
      let same : j ≡ i = q.0 ∙ sym p.0 in
      let h = (l.parts i).spelled.one s t x y vs ws p.1 (subst (λ (u : ℕ). (variants.parts u).spells Reading t ws) same q.1) e in
      (h.0, ap (λ (u : Tree). Join (Number i) u) h.1 ∙ ap (λ (u : ℕ). Join (Number u) ws) (sym same))
  chosen_one s t x y _ _ p q e = absurd search

  chosen_alone : (s t : List ℕ) (v : Tree) → chosen n variants Writing s v → chosen n variants Writing t v → s ≡ t
  chosen_alone s t (Join (Number i) vs) p q = (l.parts i).spelled.alone s t vs p.1 q.1
  chosen_alone s t _ p q = absurd search

  chosen_written : (s : List ℕ) (v : Tree) → chosen n variants Reading s v → chosen n variants Writing s v
  chosen_written s (Join (Number i) vs) p = (p.0, (l.parts i).spelled.written s vs p.1)
  chosen_written s _ p = absurd search

  chosen_announces : (s : List ℕ) (v : Tree) → chosen n variants Writing s v → chosen_length variants v ≡ capped (length s)
  chosen_announces s (Join (Number i) vs) p = (l.parts i).spelled.announces s vs p.1
  chosen_announces s _ p = absurd search

  chosen_unspelled : (v : Tree) (e : Error) → chosen_refuses n variants v e → HasNoSpelling (chosen n variants) v
  chosen_unspelled (Join (Number i) vs) e (inl p) s q = (l.parts i).unspelled vs e p.1 s q.1
  chosen_unspelled (Join (Number i) vs) e (inr p) s q = p.0 q.0
  chosen_unspelled _ e p s q = absurd search

  chosen_not_memory : (v : Tree) → chosen_refuses n variants v OutOfMemory → ⊥
  chosen_not_memory (Join (Number i) vs) (inl p) = (l.parts i).not_memory vs p.1
  chosen_not_memory (Join (Number i) vs) (inr p) = p.1
  chosen_not_memory _ p = absurd search

  chosen_all : MeetsLaws (chosen_format n variants)
  chosen_all = record {
    spelled = record { one = chosen_one; alone = chosen_alone; written = chosen_written; announces = chosen_announces };
    unspelled = chosen_unspelled;
    not_memory = chosen_not_memory;
    outside = λ v p. absurd p;
  }

pub chosen_meets : (n : ℕ) {variants : Variants} → MeetsVariantLaws variants → MeetsLaws (chosen_format n variants)
chosen_meets n {variants} l = chosen_all n variants l
