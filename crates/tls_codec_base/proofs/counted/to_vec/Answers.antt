use Rattle.std.proofs.Common.{rules, ◌≡◌, arith, inl, inr, length, refl}
use Rattle.std.specs.Prelude.{IsErrAnd}
use Rattle.std.proofs.lemmas.Result.{err_from_is_err_and}
use Rattle.tls_codec_wire.specs.declared.error.Error.TheVariants.{OutOfMemory}
use Rattle.tls_codec_grammar.specs.Tree.{trees}
use Rattle.tls_codec_grammar.specs.Gaps.{IsSafeGap}
use Rattle.tls_codec_grammar.specs.Format.{counted_list_format}
use Rattle.tls_codec_grammar.specs.Encoding.{RefusesVector}
use Rattle.tls_codec_grammar.specs.laws.FormatLaws.{content_length_sum, content_meets, counted_list_meets}
use Rattle.tls_codec_grammar.proofs.Appending.{counted_appended, empty_made, empty_refused, gap_not_filled, inside_not_appended, unheld_refused, out_of_bounds_no_form}
use Rattle.tls_codec_base.proofs.counted.to_vec.Goals as goal

pub returns-in_err-append_bytes-clause-makes : goal.returns-in_err-append_bytes-clause-makes
returns-in_err-append_bytes-clause-makes g c =
    let p = err_from_is_err_and c.from_residual-in_err-append_bytes.result c.from_residual-in_err-append_bytes.ensures.1 in
    let safe : IsSafeGap (length c.new-bytes.result.items) c.likely_width-gap.result = rw c.new-bytes.ensures.items c.likely_width-gap.ensures in
    rw (p.1, p.2) (empty_refused c.new-bytes.ensures.items (inside_not_appended g.met.F.LengthField.lawful (content_meets g.met.T.Size.lawful) c.in_ok-open_gap.ensures.ok safe c.in_err-append_bytes.ensures refl))

pub returns-in_err-fill_gap-clause-makes : goal.returns-in_err-fill_gap-clause-makes
returns-in_err-fill_gap-clause-makes g c =
    let p = err_from_is_err_and c.from_residual-in_err-fill_gap.result c.from_residual-in_err-fill_gap.ensures.1 in
    rw (p.1, p.2) (empty_refused c.new-bytes.ensures.items (gap_not_filled g.met.F.LengthField.lawful (content_meets g.met.T.Size.lawful) _ (content_length_sum _ _) (omega arith) c.in_ok-open_gap.ensures.ok c.in_ok-append_bytes.ensures refl c.in_err-fill_gap.ensures.refused))

pub returns-clause-makes : goal.returns-clause-makes
returns-clause-makes g c =
    empty_made (counted_list_format g.F.LengthField.field g.T.Size.format) c.new-bytes.ensures.items (counted_appended g.met.F.LengthField.lawful (content_meets g.met.T.Size.lawful) (omega arith) c.in_ok-open_gap.ensures.ok c.in_ok-append_bytes.ensures c.in_ok-fill_gap.ensures.ok refl)

pub returns-in_err-append_bytes-clause-out_of_bounds : goal.returns-in_err-append_bytes-clause-out_of_bounds
returns-in_err-append_bytes-clause-out_of_bounds g c long =
    let p = err_from_is_err_and c.from_residual-in_err-append_bytes.result c.from_residual-in_err-append_bytes.ensures.1 in
    let safe : IsSafeGap (length c.new-bytes.result.items) c.likely_width-gap.result = rw c.new-bytes.ensures.items c.likely_width-gap.ensures in
    let refused : RefusesVector (counted_list_format g.F.LengthField.field g.T.Size.format) (trees g.T.Size.plain c.args.elements.now) _ = empty_refused c.new-bytes.ensures.items (inside_not_appended g.met.F.LengthField.lawful (content_meets g.met.T.Size.lawful) c.in_ok-open_gap.ensures.ok safe c.in_err-append_bytes.ensures refl) in
    rw (p.1, p.2) (unheld_refused (counted_list_meets g.met.F.LengthField.lawful g.met.T.Size.lawful) long refused.cause)

pub returns-clause-out_of_bounds : goal.returns-clause-out_of_bounds
returns-clause-out_of_bounds g c long =
    let made = empty_made (counted_list_format g.F.LengthField.field g.T.Size.format) c.new-bytes.ensures.items (counted_appended g.met.F.LengthField.lawful (content_meets g.met.T.Size.lawful) (omega arith) c.in_ok-open_gap.ensures.ok c.in_ok-append_bytes.ensures c.in_ok-fill_gap.ensures.ok refl) in
    out_of_bounds_no_form (counted_list_meets g.met.F.LengthField.lawful g.met.T.Size.lawful) long made

pub returns-in_err-open_gap-clause-makes : goal.returns-in_err-open_gap-clause-makes
returns-in_err-open_gap-clause-makes g c =
    let out : IsErrAnd c.from_residual.result (λ e. e ≡ OutOfMemory) = search rules in
    let p = err_from_is_err_and c.from_residual.result out in
    rw p.1 (record { cause = inl p.2 })

pub returns-in_err-open_gap-clause-out_of_bounds : goal.returns-in_err-open_gap-clause-out_of_bounds
returns-in_err-open_gap-clause-out_of_bounds g c long =
    let out : IsErrAnd c.from_residual.result (λ e. e ≡ OutOfMemory) = search rules in
    let p = err_from_is_err_and c.from_residual.result out in
    rw p.1 (inl p.2)

pub returns-in_err-fill_gap-clause-out_of_bounds : goal.returns-in_err-fill_gap-clause-out_of_bounds
returns-in_err-fill_gap-clause-out_of_bounds g c long =
    let p = err_from_is_err_and c.from_residual-in_err-fill_gap.result c.from_residual-in_err-fill_gap.ensures.1 in
    let lawful = g.met.F.LengthField.lawful in
    let list = counted_list_format g.F.LengthField.field g.T.Size.format in
    let refused : RefusesVector list (trees g.T.Size.plain c.args.elements.now) _ = empty_refused c.new-bytes.ensures.items
    (gap_not_filled lawful (content_meets g.met.T.Size.lawful) _ (content_length_sum _ _) (omega arith)
    c.in_ok-open_gap.ensures.ok c.in_ok-append_bytes.ensures refl c.in_err-fill_gap.ensures.refused) in
    rw (p.1, p.2) (unheld_refused (counted_list_meets g.met.F.LengthField.lawful g.met.T.Size.lawful) long refused.cause)

pub open_gap-requires : goal.open_gap-requires
open_gap-requires g c = elim c.likely_width-gap.ensures [
  | inl none ↦ omega (arith, none)
  | inr small ↦ small.0
]
