use Rattle.std.proofs.lemmas.Result.{err_from_is_err_and}
use Rattle.tls_codec_base.proofs.ToEnd.{gave_all, not_read_to_end, not_to_end, saw_all}
use Rattle.tls_codec_base.proofs.ends.deserialize_to_end.Goals as goal

pub returns-clause-gave : goal.returns-clause-gave
returns-clause-gave g c = gave_all g.R.Source g.T.Size.format g.met.R.Source.gives_in_order c.in_ok-value.ensures.reads c.in_ok-expect_end.ensures.gave

pub returns-clause-whole : goal.returns-clause-whole
returns-clause-whole g c = saw_all g.R.Source g.T.Size.format g.met.R.Source.gives_in_order c.in_ok-value.ensures.reads c.in_ok-expect_end.ensures.ok

pub returns-in_err-value-clause-refused : goal.returns-in_err-value-clause-refused
returns-in_err-value-clause-refused g c =
    let p = err_from_is_err_and c.from_residual.result c.from_residual.ensures.1 in
    rw (p.1, p.2) (not_read_to_end c.in_err-value.ensures.named)

pub returns-in_err-expect_end-clause-refused : goal.returns-in_err-expect_end-clause-refused
returns-in_err-expect_end-clause-refused g c =
    let source = g.met.R.Source in
    let p = err_from_is_err_and c.from_residual-in_err-expect_end.result c.from_residual-in_err-expect_end.ensures.1 in
    rw (p.1, p.2) (not_to_end g.R.Source g.T.Size.format source.gives_in_order c.in_ok-value.ensures.reads g.T.Deserialize.names source.no_count_falls c.in_err-expect_end.ensures.refused)
