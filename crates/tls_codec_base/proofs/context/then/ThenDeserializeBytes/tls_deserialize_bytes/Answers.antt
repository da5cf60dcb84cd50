use Rattle.std.proofs.Common.{inr}
use Rattle.std.proofs.lemmas.Result.{err_from_is_err_and}
use Rattle.tls_codec_base.proofs.ThenDecoding.{rest_named, then_begins, then_refuses_first, then_refuses_rest}
use Rattle.tls_codec_base.proofs.context.then.ThenDeserializeBytes.tls_deserialize_bytes.Goals as goal

pub returns-in_err-first-clause-splits : goal.returns-in_err-first-clause-splits
returns-in_err-first-clause-splits g c =
    let p = err_from_is_err_and c.from_residual.result c.from_residual.ensures.1 in
    rw (p.1, p.2) (then_refuses_first g.T.Size.format g.U.SizeFor.format_for c.in_err-first.ensures.splits)

pub returns-in_err-second-clause-splits : goal.returns-in_err-second-clause-splits
returns-in_err-second-clause-splits g c =
    let p = err_from_is_err_and c.from_residual-in_err-second.result c.from_residual-in_err-second.ensures.1 in
    rw (p.1, p.2) (then_refuses_rest g.T.Size.format g.U.SizeFor.format_for g.met.T.Size.lawful c.in_ok-first.ensures.splits c.in_err-second.ensures.splits)

pub returns-in_err-second-clause-named : goal.returns-in_err-second-clause-named
returns-in_err-second-clause-named g c =
    let p = err_from_is_err_and c.from_residual-in_err-second.result c.from_residual-in_err-second.ensures.1 in
    rw (p.1, p.2) (inr (g.T.Size.plain c.in_ok-first.first, rest_named _ c.in_ok-first.ensures.splits c.in_err-second.ensures.named))

pub returns-clause-splits : goal.returns-clause-splits
returns-clause-splits g c = then_begins g.T.Size.format g.U.SizeFor.format_for c.in_ok-first.ensures.splits c.in_ok-second.ensures.splits
