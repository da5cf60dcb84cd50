use Rattle.std.proofs.Common.{inr}
use Rattle.std.proofs.lemmas.Result.{err_from_is_err_and}
use Rattle.tls_codec_validate.proofs.boxes.BoxValidate.tls_validate_prefix.Goals as goal

pub returns-in_err-rest-clause-validates : goal.returns-in_err-rest-clause-validates
returns-in_err-rest-clause-validates g c =
    let p = err_from_is_err_and c.from_residual.result c.from_residual.ensures.1 in
    rw (p.1, p.2) c.in_err-rest.ensures.validates

pub returns-in_err-rest-clause-rejected : goal.returns-in_err-rest-clause-rejected
returns-in_err-rest-clause-rejected g c =
    let p = err_from_is_err_and c.from_residual.result c.from_residual.ensures.1 in
    let r = c.in_err-rest.ensures.rejected in
    rw (p.1, p.2) (record { named = inr r.named; placed = r.placed; back = r.back })
