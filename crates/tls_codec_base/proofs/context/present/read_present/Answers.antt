use Rattle.std.proofs.lemmas.Result.{err_from_is_err_and}
use Rattle.tls_codec_base.proofs.Presence.{present_leaves, present_named}
use Rattle.tls_codec_base.proofs.context.present.read_present.Goals as goal

pub returns-in_err-payload-clause-reads : goal.returns-in_err-payload-clause-reads
returns-in_err-payload-clause-reads g c =
    let p = err_from_is_err_and c.from_residual.result c.from_residual.ensures.1 in
    rw (p.1, p.2, c.if-there.true) (present_leaves g.T.Size.format c.in_err-payload.ensures.reads)

pub returns-in_err-payload-clause-named : goal.returns-in_err-payload-clause-named
returns-in_err-payload-clause-named g c =
    let p = err_from_is_err_and c.from_residual.result c.from_residual.ensures.1 in
    rw (p.1, p.2, c.if-there.true) (present_named g.T.Size.format g.T.Deserialize.names c.in_err-payload.ensures.named)
