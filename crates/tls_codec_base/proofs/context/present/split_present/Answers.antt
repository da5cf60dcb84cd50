use Rattle.std.proofs.lemmas.Result.{err_from_is_err_and}
use Rattle.tls_codec_base.proofs.Presence.{present_refused}
use Rattle.tls_codec_base.proofs.context.present.split_present.Goals as goal

pub returns-in_err-payload-clause-splits : goal.returns-in_err-payload-clause-splits
returns-in_err-payload-clause-splits g c =
    let p = err_from_is_err_and c.from_residual.result c.from_residual.ensures.1 in
    rw (p.1, p.2, c.if-there.true) (present_refused g.T.Size.format c.in_err-payload.ensures.splits)
