use Rattle.std.proofs.Common.{inl, inr, refl}
use Rattle.std.proofs.lemmas.Result.{err_from_is_err_and}
use Rattle.tls_codec_base.proofs.Whole.{begins_whole}
use Rattle.tls_codec_validate.proofs.Validating.{rejects_whole, some_left, trailing_rejects}
use Rattle.tls_codec_validate.proofs.validate_for.ValidateFor.tls_validate_for.Goals as goal

pub returns-in_err-rest-clause-validates : goal.returns-in_err-rest-clause-validates
returns-in_err-rest-clause-validates g c k is =
    let p = err_from_is_err_and c.from_residual.result c.from_residual.ensures.1 in
    rw (p.1, p.2) (rejects_whole (c.in_err-rest.ensures.validates k is))

pub returns-in_err-rest-clause-rejected : goal.returns-in_err-rest-clause-rejected
returns-in_err-rest-clause-rejected g c k is =
    let p = err_from_is_err_and c.from_residual.result c.from_residual.ensures.1 in
    rw (p.1, p.2) (inr (c.in_err-rest.ensures.rejected k is))

pub returns-then-not-is_empty-clause-validates : goal.returns-then-not-is_empty-clause-validates
returns-then-not-is_empty-clause-validates g c k is =
    trailing_rejects (g.met.Self.SizeFor.lawful k).spelled (c.in_ok-rest.ensures.validates k is).begins c.if-not-is_empty.ensures

pub returns-then-not-is_empty-clause-rejected : goal.returns-then-not-is_empty-clause-rejected
returns-then-not-is_empty-clause-rejected g c k is =
    inl (record { error = refl; left = (c.in_ok-rest.ensures.validates k is); some = some_left _ c.if-not-is_empty.ensures })

pub returns-clause-validates : goal.returns-clause-validates
returns-clause-validates g c k is =
    let q = (c.in_ok-rest.ensures.validates k is) in
    (q.value, begins_whole _ _ _ _ q.begins c.if-not-is_empty.ensures)
