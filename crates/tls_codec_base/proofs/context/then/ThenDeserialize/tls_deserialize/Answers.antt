use Rattle.std.proofs.lemmas.Result.{err_from_is_err_and}
use Rattle.tls_codec_base.proofs.ThenDecoding.{then_given, then_leaves_first, then_leaves_rest, then_named_first, then_named_rest}
use Rattle.tls_codec_base.proofs.context.then.ThenDeserialize.tls_deserialize.Goals as goal

pub returns-in_err-first-clause-reads : goal.returns-in_err-first-clause-reads
returns-in_err-first-clause-reads g c =
    let p = err_from_is_err_and c.from_residual.result c.from_residual.ensures.1 in
    rw (p.1, p.2) (then_leaves_first g.T.Size.format g.U.SizeFor.format_for c.in_err-first.ensures.reads)

pub returns-in_err-first-clause-named : goal.returns-in_err-first-clause-named
returns-in_err-first-clause-named g c =
    let p = err_from_is_err_and c.from_residual.result c.from_residual.ensures.1 in
    rw (p.1, p.2) (then_named_first g.T.Size.format g.U.SizeFor.format_for g.T.Deserialize.names g.U.DeserializeFor.names c.in_err-first.ensures.named)

pub returns-in_err-rest-clause-reads : goal.returns-in_err-rest-clause-reads
returns-in_err-rest-clause-reads g c =
    let source = g.met.R.Source in
    let p = err_from_is_err_and c.from_residual-in_err-rest.result c.from_residual-in_err-rest.ensures.1 in
    rw (p.1, p.2) (then_leaves_rest g.T.Size.format g.U.SizeFor.format_for source.gives_in_order source.no_count_falls g.met.T.Size.lawful c.in_ok-first.ensures.reads c.in_err-rest.ensures.reads)

pub returns-in_err-rest-clause-named : goal.returns-in_err-rest-clause-named
returns-in_err-rest-clause-named g c =
    let source = g.met.R.Source in
    let p = err_from_is_err_and c.from_residual-in_err-rest.result c.from_residual-in_err-rest.ensures.1 in
    rw (p.1, p.2) (then_named_rest g.T.Size.format g.U.SizeFor.format_for g.T.Deserialize.names g.U.DeserializeFor.names source.gives_in_order source.no_count_falls g.met.T.Size.lawful c.in_ok-first.ensures.reads c.in_err-rest.ensures.named)

pub returns-clause-reads : goal.returns-clause-reads
returns-clause-reads g c = then_given g.T.Size.format g.U.SizeFor.format_for g.met.R.Source.gives_in_order c.in_ok-first.ensures.reads c.in_ok-rest.ensures.reads
