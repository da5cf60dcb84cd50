use Rattle.std.proofs.Common.{arith}
use Rattle.std.proofs.lemmas.Result.{err_from_is_err_and}
use Rattle.tls_codec_grammar.proofs.Named.{named_leaves}
use Rattle.tls_codec_base.proofs.Enclosing.{filling_given, filling_left, filling_named, filling_refused}
use Rattle.tls_codec_base.proofs.context.enclosed.filling_within.Goals as goal

pub returns-in_err-value-clause-reads : goal.returns-in_err-value-clause-reads
returns-in_err-value-clause-reads g c =
    let p = err_from_is_err_and c.from_residual.result c.from_residual.ensures.1 in
    let lawful = g.met.T.SizeFor.lawful (g.C.Size.plain c.args.context.now) in
    rw (p.1, p.2) (filling_refused lawful c.in_err-value.ensures.reads)

pub returns-in_err-value-clause-named : goal.returns-in_err-value-clause-named
returns-in_err-value-clause-named g c =
    let p = err_from_is_err_and c.from_residual.result c.from_residual.ensures.1 in
    let context = g.C.Size.plain c.args.context.now in
    rw (p.1, p.2) (filling_named (g.met.T.SizeFor.lawful context) (g.T.DeserializeFor.names context) c.in_err-value.ensures.named)

pub returns-then-limit-gt0-clause-reads : goal.returns-then-limit-gt0-clause-reads
returns-then-limit-gt0-clause-reads g c =
    let context = g.C.Size.plain c.args.context.now in
    named_leaves (filling_left (g.met.T.SizeFor.lawful context) (g.T.DeserializeFor.names context) g.met.R.Source.gives_nothing c.in_ok-value.ensures.reads (omega (arith, c.if-limit-gt0.true, c.limit.ensures)))

pub returns-then-limit-gt0-clause-named : goal.returns-then-limit-gt0-clause-named
returns-then-limit-gt0-clause-named g c =
    let context = g.C.Size.plain c.args.context.now in
    filling_left (g.met.T.SizeFor.lawful context) (g.T.DeserializeFor.names context) g.met.R.Source.gives_nothing c.in_ok-value.ensures.reads (omega (arith, c.if-limit-gt0.true, c.limit.ensures))

pub returns-clause-reads : goal.returns-clause-reads
returns-clause-reads g c =
    let lawful = g.met.T.SizeFor.lawful (g.C.Size.plain c.args.context.now) in
    filling_given lawful c.in_ok-value.ensures.reads (omega (arith, c.if-limit-gt0.false, c.limit.ensures))
