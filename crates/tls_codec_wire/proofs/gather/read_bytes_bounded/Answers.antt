use Rattle.std.proofs.Common.{arith, sym, subst, []}
use Rattle.std.proofs.lemmas.Result.{err_from_is_err_and}
use Rattle.tls_codec_wire.proofs.Seen.{refused_now}
use Rattle.tls_codec_wire.proofs.gather.read_bytes_bounded.Goals as goal

pub returns-then-len-clause-refused : goal.returns-then-len-clause-refused
returns-then-len-clause-refused g c =
    let source = g.met.R.Source in
    refused_now _ source.gives_nothing (source.gives_nothing _) (λ rest. omega (arith, c.if-len.true))

pub returns-in_err-bytes-clause-refused : goal.returns-in_err-bytes-clause-refused
returns-in_err-bytes-clause-refused g c =
    let source = g.met.R.Source in
    let p = err_from_is_err_and c.from_residual.result c.from_residual.ensures.1 in
    let none = c.in_err-bytes.ensures.err in
    rw (p.1, p.2, none.0) (refused_now [] source.gives_nothing (subst (g.R.Source.given c.args.src.now []) (sym none.1) (source.gives_nothing _)) (λ rest. tt))
