use Rattle.std.proofs.Common.{inl, inr}
use Rattle.std.proofs.lemmas.Result.{err_from_is_err_and}
use Rattle.tls_codec_wire.proofs.Seen.{refused_later, refused_so}
use Rattle.tls_codec_base.proofs.Coming.{named_after}
use Rattle.tls_codec_grammar.proofs.CountedDecoding.{count_refused, counted_given, counted_leaves, counted_refused}
use Rattle.tls_codec_base.proofs.context.enclosed.read_enclosed.Goals as goal

pub returns-in_err-length-clause-reads : goal.returns-in_err-length-clause-reads
returns-in_err-length-clause-reads g c =
    let p = err_from_is_err_and c.from_residual.result c.from_residual.ensures.1 in
    rw (p.1, p.2) (record { refused = refused_so (λ x q. count_refused g.met.F.LengthField.lawful _ _ x _ _ q) c.in_err-length.ensures.refused })

pub returns-in_err-value-clause-reads : goal.returns-in_err-value-clause-reads
returns-in_err-value-clause-reads g c =
    let source = g.met.R.Source in
    let p = err_from_is_err_and c.from_residual-in_err-value.result c.from_residual-in_err-value.ensures.1 in
    rw (p.1, p.2) (record { refused = counted_leaves g.met.F.LengthField.lawful _ source.gives_in_order source.no_count_falls c.in_ok-length.ensures.ok c.in_err-value.ensures.reads.refused })

pub returns-clause-reads : goal.returns-clause-reads
returns-clause-reads g c = counted_given g.met.F.LengthField.lawful _ g.met.R.Source.gives_in_order c.in_ok-length.ensures.ok c.in_ok-value.ensures.reads

pub returns-in_err-length-clause-named : goal.returns-in_err-length-clause-named
returns-in_err-length-clause-named g c =
    let p = err_from_is_err_and c.from_residual.result c.from_residual.ensures.1 in
    rw (p.1, p.2) (record { refused = refused_so (λ x q. (count_refused g.met.F.LengthField.lawful _ _ x _ _ q, inl q)) c.in_err-length.ensures.refused })

pub returns-in_err-value-clause-named : goal.returns-in_err-value-clause-named
returns-in_err-value-clause-named g c =
    let source = g.met.R.Source in
    let p = err_from_is_err_and c.from_residual-in_err-value.result c.from_residual-in_err-value.ensures.1 in
    let read = c.in_ok-length.ensures.ok in
    let fell = source.no_count_falls _ read.front _ read.held in
    rw (p.1, p.2) (record { refused = refused_later read.front source.gives_in_order read.held (λ x q. (counted_refused g.met.F.LengthField.lawful _ read.front _ fell read.spelled x q.0, inr (_, named_after read.front fell read.spelled x q.1))) c.in_err-value.ensures.named.refused })
