use Rattle.std.proofs.lemmas.Result.{err_from_is_err_and}
use Rattle.tls_codec_validate.proofs.Validating.{refuses}
use Rattle.tls_codec_validate.proofs.validate_for.ValidateFor.tls_deserialize_validated_prefix_for.Goals as goal

pub returns-in-Err-clause-splits : goal.returns-in-Err-clause-splits
returns-in-Err-clause-splits g c = refuses (c.in-Err.ensures.validates (g.X.Size.plain c.args.context.now) c.key-key.ensures)

pub returns-in-Err-clause-named : goal.returns-in-Err-clause-named
returns-in-Err-clause-named g c = (c.in-Err.ensures.rejected (g.X.Size.plain c.args.context.now) c.key-key.ensures).named

pub returns-in-Err-clause-memory : goal.returns-in-Err-clause-memory
returns-in-Err-clause-memory g c out = absurd ((c.in-Err.ensures.validates (g.X.Size.plain c.args.context.now) c.key-key.ensures).not_memory cc)

pub returns-in_err-found-clause-splits : goal.returns-in_err-found-clause-splits
returns-in_err-found-clause-splits g c =
    let p = err_from_is_err_and c.from_residual.result c.from_residual.ensures.1 in
    rw (p.1, p.2) c.in_err-found.ensures.splits

pub returns-in_err-found-clause-memory : goal.returns-in_err-found-clause-memory
returns-in_err-found-clause-memory g c out =
    let q = c.in_default.ensures.validates (g.X.Size.plain c.args.context.now) c.key-key.ensures in
    record { value = q.value; rest = _; begins = q.begins }
