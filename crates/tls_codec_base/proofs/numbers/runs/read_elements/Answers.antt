use Rattle.std.proofs.Common.{◌/◌, ◌∙◌, ap, length, ℕ}
use Rattle.std.proofs.lemmas.Result.{err_from_is_err_and}
use Rattle.tls_codec_grammar.proofs.Named.{named_leaves}
use Rattle.tls_codec_base.proofs.NumberRunSources.{run_length, run_of_no_numbers}
use Rattle.tls_codec_base.proofs.numbers.runs.read_elements.Goals as goal

pub returns-in_err-numbers-clause-reads : goal.returns-in_err-numbers-clause-reads
returns-in_err-numbers-clause-reads g c =
    let p = err_from_is_err_and c.from_residual-in_err-numbers.result c.from_residual-in_err-numbers.ensures.1 in
    rw (p.1, p.2) (named_leaves (run_of_no_numbers _ _ _ _ g.row.K c.in-Some.digits g.met.R.Source.gives_nothing c.in_ok-digits.ensures.run c.in-Some.is c.in_err-numbers.ensures.err).named)

pub returns-in_err-numbers-clause-named : goal.returns-in_err-numbers-clause-named
returns-in_err-numbers-clause-named g c =
    let p = err_from_is_err_and c.from_residual-in_err-numbers.result c.from_residual-in_err-numbers.ensures.1 in
    rw (p.1, p.2) (run_of_no_numbers _ _ _ _ g.row.K c.in-Some.digits g.met.R.Source.gives_nothing c.in_ok-digits.ensures.run c.in-Some.is c.in_err-numbers.ensures.err).named

pub returns-in_err-numbers-clause-turned : goal.returns-in_err-numbers-clause-turned
returns-in_err-numbers-clause-turned g c =
    let p = err_from_is_err_and c.from_residual-in_err-numbers.result c.from_residual-in_err-numbers.ensures.1 in
    rw (p.1, p.2) (run_of_no_numbers _ _ _ _ g.row.K c.in-Some.digits g.met.R.Source.gives_nothing c.in_ok-digits.ensures.run c.in-Some.is c.in_err-numbers.ensures.err).turned

pub returns-clause-room : goal.returns-clause-room
returns-clause-room g c =
    let filled = run_length g.R.Source _ _ _ _ g.row.K _ c.in-Some.digits c.in_ok-digits.ensures.run c.in-Some.is in
    c.in_ok-numbers.ensures.room ∙ ap (λ (n : ℕ). n / g.row.K) (ap length c.deref.ensures.value ∙ filled)
