use Rattle.std.proofs.lemmas.Result.{err_from_is_err_and}
use Rattle.tls_codec_base.proofs.ThenDecoding.{then_begins, then_refuses_first, then_refuses_rest}
use Rattle.tls_codec_validate.proofs.Placing.{rejected_then}
use Rattle.tls_codec_validate.proofs.Validating.{leaves, refuses, rejects_unless}
use Rattle.tls_codec_validate.proofs.contexts.ThenValidate.tls_validate_prefix.Goals as goal

pub returns-in_err-key-clause-validates : goal.returns-in_err-key-clause-validates
returns-in_err-key-clause-validates g c =
    let p = err_from_is_err_and c.from_residual.result c.from_residual.ensures.1 in
    let r = c.in_err-key.ensures.validates in
    rw (p.1, p.2) (rejects_unless r.not_memory (then_refuses_first g.T.Size.format g.U.SizeFor.format_for (refuses r)))

pub returns-in_err-left-clause-validates : goal.returns-in_err-left-clause-validates
returns-in_err-left-clause-validates g c =
    let p = err_from_is_err_and c.from_residual-in_err-left.result c.from_residual-in_err-left.ensures.1 in
    let first = c.in_ok-key.ensures.validates in
    let r = c.in_err-left.ensures.validates first.value first.keyed in
    rw (p.1, p.2) (rejects_unless r.not_memory (then_refuses_rest g.T.Size.format g.U.SizeFor.format_for g.met.T.Size.lawful first.begins (refuses r)))

pub returns-in_err-left-clause-rejected : goal.returns-in_err-left-clause-rejected
returns-in_err-left-clause-rejected g c =
    let p = err_from_is_err_and c.from_residual-in_err-left.result c.from_residual-in_err-left.ensures.1 in
    let first = c.in_ok-key.ensures.validates in
    rw (p.1, p.2) (rejected_then g.T.Size.format g.U.DeserializeBytesFor.names g.U.ValidateFor.places first.begins (c.in_err-left.ensures.rejected first.value first.keyed))

pub returns-clause-validates : goal.returns-clause-validates
returns-clause-validates g c =
    let first = c.in_ok-key.ensures.validates in
    leaves (then_begins g.T.Size.format g.U.SizeFor.format_for first.begins (c.in_ok-left.ensures.validates first.value first.keyed).begins)
