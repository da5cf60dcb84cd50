-- What is appended to a vector, and why nothing is.
use Rattle.std.proofs.Common.{◌≡◌, ℕ, ◌+◌, ◌-◌, ◌≤◌, ◌^◌, ◌⊎◌, List, [], ◌++◌, length, take, drop, inl, inr, refl, sym, ap, subst, ◌∙◌, append_assoc, length-append, arith}
use Rattle.std.proofs.Math.Seq.{drop-append_seam, take-append_seam}
use Rattle.tls_codec_wire.specs.declared.error.Error.{Error}
use Rattle.tls_codec_wire.specs.declared.error.Error.TheVariants.{InvalidVectorLength, OutOfMemory}
use Rattle.tls_codec_grammar.specs.Tree.{Tree}
use Rattle.tls_codec_grammar.specs.Grammar.{Writing}
use Rattle.tls_codec_grammar.specs.Shortest.{IsShortest}
use Rattle.tls_codec_grammar.specs.Announced.{capped}
use Rattle.tls_codec_grammar.specs.Field.{Field}
use Rattle.tls_codec_grammar.specs.Gaps.{FilledGap, GapRefused, IsSafeGap, OpenedGap}
use Rattle.tls_codec_grammar.specs.Format.{Format, counted_format}
use Rattle.tls_codec_grammar.specs.Lawful.{MeetsFieldLaws, MeetsLaws, MeetsLawsInside}
use Rattle.tls_codec_grammar.specs.Encoding.{Appended, AppendRefused, RefusesVector}
use Rattle.tls_codec_grammar.specs.laws.RowLaws.{least_one}
use Rattle.tls_codec_grammar.specs.laws.ListLaws.{counted_shortest}
use Rattle.tls_codec_grammar.proofs.CountedEncoding.{counted_split}

-- what was appended is cut off
pub cut_off : {a b c : List ℕ} {n : ℕ} (form : List ℕ) → c ≡ take n b → n ≡ length a → b ≡ a ++ form → c ≡ a
cut_off {a} {b} {c} {n} form cut e held = cut ∙ ap (λ (k : ℕ). take k b) e ∙ ap (take (length a)) held ∙ take-append_seam a form

-- a form that is appended in one piece
pub whole_appended : {f : Format} {v : Tree} {form old new : List ℕ} {n : ℕ} → IsShortest f.spells form v → new ≡ old ++ form → n ≡ length form → Appended f v old new n
whole_appended {f} {v} {form} p held count = record { form = form; shortest = p; held = held; count = count }

-- the form and what comes before it pass the greatest vector
pub form_too_long : {f : Format} {v : Tree} {form old new : List ℕ} → new ≡ old → IsShortest f.spells form v → 2 ^ 63 ≤ length old + length form → AppendRefused f v old new InvalidVectorLength
form_too_long {f} {v} {form} kept p long = record {
  kept = kept;
  cause = inr (inr (refl, λ s q. omega (arith, long, ap length (least_one (λ u. f.spells Writing u v) s form q p))));
}

-- a part is refused: what its format names for it the whole's names for the whole, whose shortest forms are no shorter
-- than the part's after what comes before it
pub part_refused : {part : Format} {v : Tree} {b c : List ℕ} {e : Error} (whole : Format) (w : Tree) (a d : List ℕ) → AppendRefused part v b c e → d ≡ a → (part.refuses v e → whole.refuses w e)
    → ((s : List ℕ) → IsShortest whole.spells s w → (x : List ℕ) × IsShortest part.spells x v × (length b + length x ≤ length a + length s)) → AppendRefused whole w a d e
part_refused whole w a d p kept named forms = record {
  kept = kept;
  cause = elim p.cause [
    | inl memory ↦ inl memory
    | inr (inl refused) ↦ inr (inl (named refused))
    | inr (inr long) ↦ inr (inr (
      long.0,
      λ s q.
          let x = forms s q in
          omega (arith, long.1 x.0 x.1, x.2),
    ))
  ];
}

-- ---- vectors of their own

-- nothing is appended if no vector is made
pub vector_not_appended : {f : Format} {v : Tree} {old new : List ℕ} {e : Error} → new ≡ old → RefusesVector f v e → AppendRefused f v old new e
vector_not_appended kept p = record {
  kept = kept;
  cause = elim p.cause [
    | inl memory ↦ inl memory
    | inr (inl named) ↦ inr (inl named)
    | inr (inr long) ↦ inr (inr (long.0, λ s q. omega (arith, long.1 s q)))
  ];
}

-- what an empty vector then holds, and why it is none
pub empty_made : (f : Format) {v : Tree} {a b : List ℕ} {n : ℕ} → a ≡ [] → Appended f v a b n → IsShortest f.spells b v
empty_made f {v} {a} {b} {n} e p = subst (λ (u : List ℕ). IsShortest f.spells u v) (sym (p.held ∙ ap (λ (u : List ℕ). u ++ p.form) e)) p.shortest

pub empty_refused : {f : Format} {v : Tree} {a b : List ℕ} {e : Error} → a ≡ [] → AppendRefused f v a b e → RefusesVector f v e
empty_refused h p = record {
  cause = elim p.cause [
    | inl memory ↦ inl memory
    | inr (inl named) ↦ inr (inl named)
    | inr (inr long) ↦ inr (inr (long.0, λ s q. omega (arith, ap length h, long.1 s q)))
  ];
}

-- ---- what comes after its length

-- what is out of bounds has no form
pub out_of_bounds_no_form : {f : Format} {v : Tree} {form : List ℕ} → MeetsLaws f → f.out_of_bounds v → IsShortest f.spells form v → ⊥
out_of_bounds_no_form {f} {v} {form} l long p = l.unspelled v InvalidVectorLength (l.outside v long) form p.spelled

-- and is refused because memory ran out, or by a name of the format
pub unheld_refused : {f : Format} {v : Tree} {e : Error} {Passes : Type 0} → MeetsLaws f → f.out_of_bounds v → (e ≡ OutOfMemory) ⊎ (f.refuses v e ⊎ ((e ≡ InvalidVectorLength) × Passes)) → (e ≡ OutOfMemory) ⊎ f.refuses v e
unheld_refused l long (inl memory) = inl memory
unheld_refused l long (inr (inl named)) = inr named
unheld_refused {f} {v} l long (inr (inr passes)) = inr (subst (f.refuses v) (sym passes.0) (l.outside v long))

module _ {field : Field} (m : MeetsFieldLaws field) {inside : Format} (l : MeetsLawsInside inside) where
  -- what is announced, if the field holds it, is how many bytes the inside has
  announced_counts : {v : Tree} {c : List ℕ} (n : ℕ) → inside.announced v ≡ capped n → IsShortest inside.spells c v → field.holds n → n ≡ length c
  announced_counts {v} {c} n announced p held = omega (arith, m.small n held, announced, l.spelled.announces c v p.spelled)

  module _ {sum : Tree → ℕ} {v : Tree} where
    -- the length is in the gap before the inside
    pub counted_appended : {a b c d : List ℕ} {at gap k width n : ℕ} → at ≡ length a → OpenedGap a b gap → Appended inside v b c k → FilledGap field c d at gap width → n ≡ length d - at → Appended (counted_format field sum inside) v a d n
    counted_appended {a} {b} {c} {d} {at} {gap} {k} {width} {n} e o p q h =
        let place : at + gap ≡ length b = omega (arith, e, o.count, ap length o.held, length-append a o.gap) in
        let size : length c - (at + gap) ≡ length p.form = omega (arith, place, ap length p.held, length-append b p.form) in
        let counts : field.spells q.form (length p.form) = subst (field.spells q.form) size q.spelled in
        let behind : drop (at + gap) c ≡ p.form = ap (λ (j : ℕ). drop j c) place ∙ ap (drop (length b)) p.held ∙ drop-append_seam b p.form in
        let whole : c ≡ a ++ (o.gap ++ p.form) = p.held ∙ ap (λ (u : List ℕ). u ++ p.form) o.held ∙ append_assoc a o.gap p.form in
        let held : d ≡ a ++ (q.form ++ p.form) = q.held ∙ ap (λ (u : List ℕ). u ++ (q.form ++ drop (at + gap) c)) (cut_off (o.gap ++ p.form) refl e whole) ∙ ap (λ (u : List ℕ). a ++ (q.form ++ u)) behind in
        record {
          form = q.form ++ p.form;
          shortest = counted_shortest field.spells field.width m.counts inside.spells inside.announced l.spelled q.form p.form v counts p.shortest.spelled;
          held = held;
          count = omega (arith, h, e, ap length held, length-append a (q.form ++ p.form));
        }

    -- the inside is refused after its gap
    pub inside_not_appended : {a b c d : List ℕ} {gap : ℕ} {e : Error} → OpenedGap a b gap → IsSafeGap (length a) gap → AppendRefused inside v b c e → d ≡ a → AppendRefused (counted_format field sum inside) v a d e
    inside_not_appended {a} {b} {c} {d} {gap} {e} o safe p kept = record {
      kept = kept;
      cause = elim p.cause [
        | inl memory ↦ inl memory
        | inr (inl named) ↦ inr (inl (inr named))
        | inr (inr long) ↦ inr (inr (
          long.0,
          λ s q.
              let h = counted_split m l s q in
              let below = m.small (length h.0) (m.held h.1 (length h.0) h.4) in
              let more = long.1 h.0 h.3 in
              elim safe [
                | inl none ↦ omega (arith, more, none, o.count, ap length o.held, length-append a o.gap, ap length h.2, length-append h.1 h.0)
                | inr small ↦ absurd (omega (arith, more, below, small, o.count, ap length o.held, length-append a o.gap))
              ],
        ))
      ];
    }

    -- its length is refused
    pub count_not_appended : {a d c : List ℕ} {e : Error} → inside.announced v ≡ capped (sum v) → IsShortest inside.spells c v → d ≡ a → (e ≡ OutOfMemory) ⊎ ((e ≡ InvalidVectorLength) × (field.holds (length c) → ⊥)) → AppendRefused (counted_format field sum inside) v a d e
    count_not_appended {a} {d} {c} {e} is_sum p kept q = record {
      kept = kept;
      cause = elim q [
        | inl memory ↦ inl memory
        | inr long ↦ inr (inl (inl (long.0, λ held. long.1 (subst field.holds (announced_counts (sum v) is_sum p held) held))))
      ];
    }

    -- the same for the length that is put into the gap
    pub gap_not_filled : {a b c d : List ℕ} {at gap k : ℕ} (e : Error) → inside.announced v ≡ capped (sum v) → at ≡ length a → OpenedGap a b gap → Appended inside v b c k → d ≡ a → GapRefused field at (length c - (at + gap)) e → AppendRefused (counted_format field sum inside) v a d e
    gap_not_filled OutOfMemory is_sum e o p kept q = record { kept = kept; cause = inl refl }
    gap_not_filled {a} {b} {c} {d} {at} {gap} {k} InvalidVectorLength is_sum e o p kept q =
        let size : length c - (at + gap) ≡ length p.form = omega (arith, e, o.count, ap length o.held, length-append a o.gap, ap length p.held, length-append b p.form) in
        record {
          kept = kept;
          cause = elim q [
            | inl long ↦ inr (inl (inl (refl, λ held. long (subst field.holds (announced_counts (sum v) is_sum p.shortest held ∙ sym size) held))))
            | inr passes ↦ inr (inr (
              refl,
              λ s r.
                  let h = counted_split m l s r in
                  let same : h.0 ≡ p.form = least_one (λ u. inside.spells Writing u v) h.0 p.form h.3 p.shortest in
                  let width = m.counts.measures h.1 (length h.0) h.4 in
                  let wide : field.width (length c - (at + gap)) ≡ field.width (length h.0) = ap field.width (size ∙ ap length (sym same)) in
                  omega (arith, passes, wide, width, e, size, ap length same, ap length h.2, length-append h.1 h.0),
            ))
          ];
        }
    gap_not_filled _ is_sum e o p kept q = absurd q

-- what was before a gap is left of a vector whose bytes before it are as they were
pub kept_before_gap : {f : Format} {v : Tree} {a b c : List ℕ} (d : List ℕ) {at gap k : ℕ} → at ≡ length a → OpenedGap a b gap → Appended f v b c k → take at d ≡ take at c → take (length a) d ≡ a
kept_before_gap {f} {v} {a} {b} {c} d {at} e o p same =
    let whole : c ≡ a ++ (o.gap ++ p.form) = p.held ∙ ap (λ (u : List ℕ). u ++ p.form) o.held ∙ append_assoc a o.gap p.form in
    ap (λ (n : ℕ). take n d) (sym e) ∙ same ∙ cut_off (o.gap ++ p.form) refl e whole
