use Rattle.std.proofs.Common.{rules, ℕ, ◌≡◌, ◌∙◌, [], append-nil, arith, inl, inr, refl, subst, sym}
use Rattle.std.specs.Prelude.{IsErrAnd}
use Rattle.std.proofs.lemmas.Result.{err_from_is_err_and}
use Rattle.tls_codec_wire.specs.declared.error.Error.TheVariants.{OutOfMemory}
use Rattle.tls_codec_grammar.specs.Gaps.{IsSafeGap}
use Rattle.tls_codec_grammar.specs.laws.FormatLaws.{content_length_sum, content_meets}
use Rattle.tls_codec_grammar.proofs.Appending.{counted_appended, cut_off, gap_not_filled, inside_not_appended, kept_before_gap}
use Rattle.tls_codec_base.proofs.counted.engines.append_after_gap.Goals as goal

pub returns-in_err-append-clause-err : goal.returns-in_err-append-clause-err
returns-in_err-append-clause-err g c =
    let p = err_from_is_err_and c.from_residual-in_err-append.result c.from_residual-in_err-append.ensures.1 in
    let opened = c.in_ok-open_gap.ensures.ok in
    let refused = c.in_err-append.ensures in
    let safe = subst (λ (n : ℕ). IsSafeGap n c.likely_width-gap.result) (omega (arith, c.len-at.ensures)) c.likely_width-gap.ensures in
    rw (p.1, p.2) (inside_not_appended g.met.F.LengthField.lawful (content_meets (g.met.K.ElementCoding.lawful c.args.coding.now)) opened safe refused (cut_off opened.gap refl refl (refused.kept ∙ opened.held)))

pub returns-in_err-fill_gap-clause-err : goal.returns-in_err-fill_gap-clause-err
returns-in_err-fill_gap-clause-err g c =
    let p = err_from_is_err_and c.from_residual-in_err-fill_gap.result c.from_residual-in_err-fill_gap.ensures.1 in
    let opened = c.in_ok-open_gap.ensures.ok in
    let filled = c.in_err-fill_gap.ensures in
    rw (p.1, p.2) (gap_not_filled g.met.F.LengthField.lawful (content_meets (g.met.K.ElementCoding.lawful c.args.coding.now)) _ (content_length_sum _ _) (omega (arith, c.len-at.ensures)) opened c.in_ok-append.ensures (kept_before_gap _ (omega (arith, c.len-at.ensures)) opened c.in_ok-append.ensures filled.kept) filled.refused)

pub returns-clause-ok : goal.returns-clause-ok
returns-clause-ok g c =
    counted_appended g.met.F.LengthField.lawful (content_meets (g.met.K.ElementCoding.lawful c.args.coding.now)) (omega (arith, c.len-at.ensures)) c.in_ok-open_gap.ensures.ok c.in_ok-append.ensures c.in_ok-fill_gap.ensures.ok (omega (arith, c.len.ensures))

pub returns-in_err-open_gap-clause-err : goal.returns-in_err-open_gap-clause-err
returns-in_err-open_gap-clause-err g c =
    let out : IsErrAnd c.from_residual.result (λ e. e ≡ OutOfMemory) = search rules in
    let p = err_from_is_err_and c.from_residual.result out in
    rw p.1 (record { kept = cut_off [] refl refl (c.in_err-open_gap.ensures.kept ∙ sym (append-nil _)); cause = inl p.2 })

pub open_gap-requires : goal.open_gap-requires
open_gap-requires g c = elim c.likely_width-gap.ensures [
  | inl none ↦ omega (arith, none)
  | inr small ↦ small.0
]
