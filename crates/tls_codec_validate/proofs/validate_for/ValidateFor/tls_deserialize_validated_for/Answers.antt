use Rattle.std.proofs.lemmas.Result.{err_from_is_err_and}
use Rattle.tls_codec_validate.proofs.Placing.{named_whole}
use Rattle.tls_codec_validate.proofs.Validating.{refuses_all}
use Rattle.tls_codec_validate.proofs.validate_for.ValidateFor.tls_deserialize_validated_for.Goals as goal

pub returns-in-Err-clause-reads : goal.returns-in-Err-clause-reads
returns-in-Err-clause-reads g c = refuses_all (c.in-Err.ensures.validates (g.X.Size.plain c.args.context.now) c.key-key.ensures)

pub returns-in-Err-clause-named : goal.returns-in-Err-clause-named
returns-in-Err-clause-named g c = named_whole (c.in-Err.ensures.rejected (g.X.Size.plain c.args.context.now) c.key-key.ensures)

pub returns-in-Err-clause-memory : goal.returns-in-Err-clause-memory
returns-in-Err-clause-memory g c out = absurd ((c.in-Err.ensures.validates (g.X.Size.plain c.args.context.now) c.key-key.ensures).not_memory cc)

pub returns-in_err-value-clause-reads : goal.returns-in_err-value-clause-reads
returns-in_err-value-clause-reads g c =
    let p = err_from_is_err_and c.from_residual.result c.from_residual.ensures.1 in
    rw (p.1, p.2) c.in_err-value.ensures.reads

pub returns-in_err-value-clause-memory : goal.returns-in_err-value-clause-memory
returns-in_err-value-clause-memory g c out = c.in_default.ensures.validates (g.X.Size.plain c.args.context.now) c.key-key.ensures
