-- What all of the bytes spell, from what they begin with.
use Rattle.std.proofs.Common.{◌≡◌, ℕ, List, [], ◌∷◌, ◌++◌, length, Bool, true, false, inl, inr, refl, sym, ap, subst, ◌∙◌, append-nil, length-append, arith}
use Rattle.std.specs.Prelude.{◌==◌}
use Rattle.std.proofs.lemmas.Bool.{eqb-true, eqb-false}
use Rattle.tls_codec_wire.specs.Counts.{no_counts}
use Rattle.tls_codec_wire.specs.declared.error.Error.{Error}
use Rattle.tls_codec_wire.specs.declared.error.Error.TheVariants.{TrailingData}
use Rattle.tls_codec_grammar.specs.Tree.{Tree}
use Rattle.tls_codec_grammar.specs.Grammar.{Grammar, Reading}
use Rattle.tls_codec_grammar.specs.Lawful.{IsLawful}
use Rattle.tls_codec_grammar.specs.Decoding.{Begins, Refuses, RefusesSeen, RefusesWhole}

-- ---- what `is_empty` returns

nothing_left : (x : List ℕ) → length x ≡ 0 → x ≡ []
nothing_left [] e = refl
nothing_left (b ∷ bs) e = absurd (omega (arith, e))

module _ (spells : Grammar) where
  -- if nothing is left, all of the bytes are the spelling
  pub begins_whole : (x : List ℕ) (v : Tree) (rest : List ℕ) → Begins spells x v rest → true ≡ (length rest == 0) → spells Reading x v
  begins_whole x v rest b empty =
      let none : rest ≡ [] = nothing_left rest (eqb-true (length rest) 0 (sym empty)) in
      let all : x ≡ b.front = b.whole ∙ ap (λ (u : List ℕ). b.front ++ u) none ∙ append-nil b.front in
      subst (λ (u : List ℕ). spells Reading u v) (sym all) b.spelled

  whole_begins : (x : List ℕ) (v : Tree) → spells Reading x v → Begins spells x v []
  whole_begins x v p = record { front = x; whole = sym (append-nil x); spelled = p }

  -- what is refused as the front of the bytes is refused as the whole of them
  pub refuses_whole : (lean : Bool) (x : List ℕ) (e : Error) → Refuses spells lean x e → RefusesWhole spells lean x e
  refuses_whole lean x e r = record {
    cause = elim r.cause [
      | inl none ↦ inl (λ v p. none v [] (whole_begins x v p))
      | inr memory ↦ inr memory
    ];
    memory = r.memory;
    trailing = λ more. elim r.cause [
      | inl none ↦ absurd (none more.value more.rest more.begins)
      | inr memory ↦ inr memory
    ];
  }

  -- what a slice gives as a source is what it begins with
  pub slice_begins : (x front rest : List ℕ) (v : Tree) → x ≡ front ++ rest → spells Reading front v → Begins spells x v rest
  slice_begins x front rest v whole spelled = record { front = front; whole = whole; spelled = spelled }

  -- a slice as a source has no fault and no shortage
  pub slice_refuses : (lean : Bool) (x : List ℕ) (e : Error) → RefusesSeen spells lean x no_counts no_counts e → Refuses spells lean x e
  slice_refuses lean x e r = record {
    cause = elim r.cause [
      | inl none ↦ inl none
      | inr (inl (inl failed)) ↦ absurd (omega (arith, failed))
      | inr (inl (inr interrupted)) ↦ absurd (omega (arith, interrupted))
      | inr (inr memory) ↦ inr memory
    ];
    memory = λ h. elim (r.memory h) [
      | inl not_lean ↦ not_lean
      | inr rose ↦ absurd (omega (arith, rose))
    ];
  }

module _ (spells : Grammar) (f : Tree → ℕ) (l : IsLawful spells f) where
  -- if a byte is left, the whole is no spelling
  pub refuses_trailing : (lean : Bool) (x : List ℕ) (v : Tree) (rest : List ℕ) → Begins spells x v rest → false ≡ (length rest == 0) → RefusesWhole spells lean x TrailingData
  refuses_trailing lean x v rest b some = record {
    cause = inl (λ w p.
        let h = l.one x b.front [] rest w v p b.spelled (append-nil x ∙ b.whole) in
        omega (arith, eqb-false (length rest) 0 (sym some), ap length b.whole, ap length h.0, length-append b.front rest));
    memory = λ h. absurd cc;
    trailing = λ more. inl refl;
  }
