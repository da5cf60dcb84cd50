use Rattle.std.proofs.Common.{true}
use Rattle.std.proofs.lemmas.Result.{err_from_is_err_and}
use Rattle.tls_codec_base.proofs.FieldsDecoding.{fields_begins, fields_refuses_first, fields_refuses_others, nothing_begins}
use Rattle.tls_codec_validate.proofs.Placing.{rejected_first, rejected_others}
use Rattle.tls_codec_validate.proofs.Validating.{leaves, refuses, rejects}
use Rattle.tls_codec_validate.proofs.products.Tuple3Validate.tls_validate_prefix.Goals as goal

pub returns-in_err-after_first-clause-validates : goal.returns-in_err-after_first-clause-validates
returns-in_err-after_first-clause-validates g c =
    let p = err_from_is_err_and c.from_residual.result c.from_residual.ensures.1 in
    rw (p.1, p.2) (rejects (fields_refuses_first true (refuses {lean = true} c.in_err-after_first.ensures.validates)))

pub returns-in_err-after_second-clause-validates : goal.returns-in_err-after_second-clause-validates
returns-in_err-after_second-clause-validates g c =
    let p = err_from_is_err_and c.from_residual-in_err-after_second.result c.from_residual-in_err-after_second.ensures.1 in
    rw (p.1, p.2) (rejects (fields_refuses_others true g.met.T.Size.lawful.spelled c.in_ok-after_first.ensures.validates.begins (fields_refuses_first true (refuses {lean = true} c.in_err-after_second.ensures.validates))))

pub returns-in_err-after_third-clause-validates : goal.returns-in_err-after_third-clause-validates
returns-in_err-after_third-clause-validates g c =
    let p = err_from_is_err_and c.from_residual-in_err-after_third.result c.from_residual-in_err-after_third.ensures.1 in
    rw (p.1, p.2) (rejects (fields_refuses_others true g.met.T.Size.lawful.spelled c.in_ok-after_first.ensures.validates.begins (fields_refuses_others true g.met.U.Size.lawful.spelled c.in_ok-after_second.ensures.validates.begins (fields_refuses_first true (refuses {lean = true} c.in_err-after_third.ensures.validates)))))

pub returns-clause-validates : goal.returns-clause-validates
returns-clause-validates g c = leaves (fields_begins c.in_ok-after_first.ensures.validates.begins (fields_begins c.in_ok-after_second.ensures.validates.begins (fields_begins c.in_ok-after_third.ensures.validates.begins (nothing_begins _))))

pub returns-in_err-after_second-clause-rejected : goal.returns-in_err-after_second-clause-rejected
returns-in_err-after_second-clause-rejected g c =
    let p = err_from_is_err_and c.from_residual-in_err-after_second.result c.from_residual-in_err-after_second.ensures.1 in
    rw (p.1, p.2) (rejected_others g.T.Size.format c.in_ok-after_first.ensures.validates.begins
    (rejected_first g.U.Size.format (refuses c.in_err-after_second.ensures.validates) c.in_err-after_second.ensures.rejected))

pub returns-in_err-after_third-clause-rejected : goal.returns-in_err-after_third-clause-rejected
returns-in_err-after_third-clause-rejected g c =
    let p = err_from_is_err_and c.from_residual-in_err-after_third.result c.from_residual-in_err-after_third.ensures.1 in
    rw (p.1, p.2) (rejected_others g.T.Size.format c.in_ok-after_first.ensures.validates.begins
    (rejected_others g.U.Size.format c.in_ok-after_second.ensures.validates.begins c.in_err-after_third.ensures.rejected))
