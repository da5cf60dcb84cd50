-- A value inside a length, and what of it is rejected.
use Rattle.std.proofs.Common.{◌≡◌, ℕ, ◌-◌, List, [], ◌++◌, length, take, drop, ◌⊎◌, inl, inr, refl, sym, ap, subst, ◌∙◌, append_assoc, arith, length-append}
use Rattle.std.proofs.Math.Seq.{drop-append_seam}
use Rattle.std.specs.Borrow.{Bor}
use Rattle.tls_codec_wire.specs.Numbers.{BeginsNumber}
use Rattle.tls_codec_wire.specs.declared.error.Error.{Error}
use Rattle.tls_codec_wire.specs.declared.error.Error.TheVariants.{TrailingData}
use Rattle.tls_codec_grammar.specs.Field.{Field}
use Rattle.tls_codec_grammar.specs.Format.{Format}
use Rattle.tls_codec_grammar.specs.Grammar.{Grammar, Reading, counted, sized}
use Rattle.tls_codec_grammar.specs.Lawful.{MeetsFieldLaws}
use Rattle.tls_codec_grammar.specs.Decoding.{Begins, NoneBegins, NoneSpelled}
use Rattle.tls_codec_grammar.specs.laws.RowLaws.{split_at}
use Rattle.tls_codec_grammar.proofs.CountedDecoding.{counted_begins, counted_none_at_inside}
use Rattle.tls_codec_base.specs.ContextNames.{enclosed_names, filling_names}
use Rattle.tls_codec_base.specs.PartNames.{IsSpelling, SliceNames}
use Rattle.tls_codec_base.proofs.Enclosing.{enclosed_behind, left_inside}
use Rattle.tls_codec_validate.specs.declared.rejected.Rejected.{Rejected}
use Rattle.tls_codec_validate.specs.Validated.{BeginsLeaving, Rejects, RejectsWhole}
use Rattle.tls_codec_validate.specs.Places.{IsSuffix, IsTrailing, PlacedNames, RejectedAt}
use Rattle.tls_codec_validate.specs.EnclosedPlaces.{PlacedWithin, enclosed_places}
use Rattle.tls_codec_validate.proofs.Placing.{back_behind}

module _ {field : Field} (m : MeetsFieldLaws field) {spells : Grammar} {x behind : List ℕ} (inside rest : List ℕ) {n : ℕ} (p : BeginsNumber field.spells x n behind) (whole : behind ≡ inside ++ rest) (width : length inside ≡ n) where
  pub enclosed_leaves : IsSpelling spells inside → BeginsLeaving (counted field.spells spells) x rest
  enclosed_leaves s = record { value = s.0; begins = counted_begins m spells p (record { front = inside; whole = whole; spelled = (width, s.1) }) }

  none_inside : NoneSpelled spells inside → NoneBegins (sized n spells) behind
  none_inside none v left b =
      let same : inside ≡ b.front = (split_at inside b.front rest left (width ∙ sym b.spelled.0) (sym whole ∙ b.whole)).0 in
      none v (subst (λ (u : List ℕ). spells Reading u v) (sym same) b.spelled.1)

  -- all that the length counts is rejected
  pub enclosed_rejects : {e : Error} → RejectsWhole spells inside e → Rejects (counted field.spells spells) x e
  enclosed_rejects r = record { none = counted_none_at_inside m spells x behind n p.front p.whole p.spelled (none_inside r.none); not_memory = r.not_memory }

-- what is left inside, and all that is behind it
left_and_behind : {behind inside : List ℕ} (rest front left : List ℕ) {n : ℕ} → behind ≡ inside ++ rest → length inside ≡ n → inside ≡ front ++ left → drop (n - length left) behind ≡ left ++ rest
left_and_behind {behind} {inside} rest front left {n} whole width parts =
    let at : n - length left ≡ length front = omega (arith, width, ap length parts, length-append front left) in
    let all : behind ≡ front ++ (left ++ rest) = whole ∙ ap (λ (u : List ℕ). u ++ rest) parts ∙ append_assoc front left rest in
    ap (λ (k : ℕ). drop k behind) at ∙ ap (drop (length front)) all ∙ drop-append_seam front (left ++ rest)

module _ (field : Field) (f : Format) (names : SliceNames) (places : PlacedNames) {x behind : List ℕ} (inside rest : List ℕ) {n : ℕ} (p : BeginsNumber field.spells x n behind) (whole : behind ≡ inside ++ rest) (first : inside ≡ take n behind) (width : length inside ≡ n) where
  within : {e : Error} (left : Bor (List ℕ)) (front inner : List ℕ) → left.now ≡ drop (n - length inner) behind → inside ≡ front ++ inner → filling_names field f names n behind e
      → places inner inside e ⊎ ((e ≡ TrailingData) × BeginsLeaving f.spells inside inner) → RejectedAt (enclosed_names field f names) (enclosed_places field f places) x (record { error = e; rest = left })
  within {e} left front inner is parts named placed =
      let at = is ∙ left_and_behind rest front inner whole width parts in record {
        named = enclosed_behind field f names p named;
        placed = inr (n, record { front = p.front; rest = behind; whole = p.whole; is_front = p.spelled; named = record { inside = inside; after = rest; left = inner; whole = whole; fills = width; at_left = at; placed = placed } });
        back = back_behind p.front p.whole (record {
          front = front;
          whole = whole ∙ ap (λ (u : List ℕ). u ++ rest) parts ∙ append_assoc front inner rest ∙ ap (λ (u : List ℕ). front ++ u) (sym at);
        });
      }

  -- the field is rejected that is rejected inside
  pub rejected_inside : (r : Rejected) (left : Bor (List ℕ)) → left.now ≡ drop (n - length r.rest.now) behind → IsTrailing f.spells inside r ⊎ RejectedAt names places inside r
      → RejectedAt (enclosed_names field f names) (enclosed_places field f places) x (record { error = r.error; rest = left })
  rejected_inside r left is (inl t) =
      let b = t.left.begins in
      within left b.front r.rest.now is b.whole (inr (inr (t.error, left_inside rest whole width b (λ none. omega (arith, none, t.some))))) (inr (t.error, t.left))
  rejected_inside r left is (inr q) = within left q.back.front r.rest.now is q.back.whole (inr (inl (subst (λ (u : List ℕ). names u r.error) first q.named))) (inl q.placed)
