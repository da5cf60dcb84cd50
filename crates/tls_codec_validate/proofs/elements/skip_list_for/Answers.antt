use Rattle.std.proofs.Common.{true}
use Rattle.std.proofs.lemmas.Result.{err_from_is_err_and}
use Rattle.tls_codec_grammar.proofs.CountedDecoding.{count_refuses, counted_begins, counted_refuses}
use Rattle.tls_codec_validate.proofs.Placing.{rejected_elements, rejected_length}
use Rattle.tls_codec_validate.proofs.Validating.{leaves, refuses, rejects}
use Rattle.tls_codec_validate.proofs.elements.skip_list_for.Goals as goal

pub returns-in_err-length-clause-validates : goal.returns-in_err-length-clause-validates
returns-in_err-length-clause-validates g c k is =
    let p = err_from_is_err_and c.from_residual.result c.from_residual.ensures.1 in
    let refused = rw c.in_err-length.ensures.err.0 at c.split_length.ensures.err in
    rw (p.1, p.2) (rejects (count_refuses g.met.F.LengthField.lawful _ {lean = true} _ _ refused))

pub returns-in_err-length-clause-rejected : goal.returns-in_err-length-clause-rejected
returns-in_err-length-clause-rejected g c k is =
    let p = err_from_is_err_and c.from_residual.result c.from_residual.ensures.1 in
    let refused = rw c.in_err-length.ensures.err.0 at c.split_length.ensures.err in
    rw (p.1, p.2) (rejected_length (g.T.SizeFor.format_for k) g.F.LengthField.field c.in_err-length.ensures.err.1 refused)

pub returns-in_err-behind-clause-validates : goal.returns-in_err-behind-clause-validates
returns-in_err-behind-clause-validates g c k is =
    let p = err_from_is_err_and c.from_residual-in_err-behind.result c.from_residual-in_err-behind.ensures.1 in
    let read = rw c.in_ok-length.ensures.ok at c.split_length.ensures.ok in
    rw (p.1, p.2) (rejects (counted_refuses g.met.F.LengthField.lawful _ read (refuses {lean = true} (c.in_err-behind.ensures.validates k is))))

pub returns-in_err-behind-clause-rejected : goal.returns-in_err-behind-clause-rejected
returns-in_err-behind-clause-rejected g c k is =
    let p = err_from_is_err_and c.from_residual-in_err-behind.result c.from_residual-in_err-behind.ensures.1 in
    let read = rw c.in_ok-length.ensures.ok at c.split_length.ensures.ok in
    rw (p.1, p.2) (rejected_elements (g.T.SizeFor.format_for k) g.F.LengthField.field read.front read.whole read.spelled (c.in_err-behind.ensures.rejected k is))

pub returns-clause-validates : goal.returns-clause-validates
returns-clause-validates g c k is =
    let read = rw c.in_ok-length.ensures.ok at c.split_length.ensures.ok in
    leaves (counted_begins g.met.F.LengthField.lawful _ read (c.in_ok-behind.ensures.validates k is).begins)
