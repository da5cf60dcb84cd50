use Rattle.std.proofs.Common.{refl, [], sym, subst}
use Rattle.std.proofs.lemmas.Result.{err_from_is_err_and}
use Rattle.tls_codec_wire.specs.Bounded.{inner_of}
use Rattle.tls_codec_base.proofs.NumberRunSources.{run_without_memory}
use Rattle.tls_codec_base.proofs.numbers.runs.read_run.Goals as goal

pub returns-in_err-digits-clause-run : goal.returns-in_err-digits-clause-run
returns-in_err-digits-clause-run g c =
    let source = g.met.R.Source in
    let p = err_from_is_err_and c.from_residual.result c.from_residual.ensures.1 in
    let none = c.in_err-digits.ensures.err in
    rw (p.1, p.2) (run_without_memory _ _ g.row.K [] source.gives_nothing (subst (λ u. g.R.Source.given (inner_of c.args.within.now) [] (inner_of u)) (sym none.1) (source.gives_nothing _)) none.0 refl)
