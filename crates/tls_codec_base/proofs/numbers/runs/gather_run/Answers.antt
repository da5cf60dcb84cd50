use Rattle.std.proofs.Common.{◌≡◌, ℕ, Err, ◌++◌, ◌/◌, arith, ap, length, subst, ◌∙◌}
use Rattle.std.proofs.lemmas.Result.{IfErr-at_err}
use Rattle.tls_codec_wire.specs.Digits.{AreBytes}
use Rattle.tls_codec_wire.specs.Seen.{RefusedFor, within}
use Rattle.tls_codec_wire.specs.Transfer.{BytesRefused}
use Rattle.tls_codec_base.proofs.NumberRunSources.{run_not_gathered}
use Rattle.tls_codec_base.proofs.numbers.runs.gather_run.Goals as goal

pub returns-in-Err-clause-run : goal.returns-in-Err-clause-run
returns-in-Err-clause-run g c =
    let source = g.met.R.Source in
    let came = c.gather-gathered.ensures.came in
    let same : c.gather-gathered.new.bytes.items ≡ came.bytes = came.appended ∙ ap (λ u. u ++ came.bytes) c.new-digits.ensures.items in
    let count : c.len.result ≡ length came.bytes = omega (arith, c.len.ensures, ap length same) in
    run_not_gathered _ _ g.row.K came.bytes c.requires.some c.requires.width (subst AreBytes (c.deref.ensures.value ∙ same) c.see_bytes.ensures) (omega (arith, c.limit-limit.ensures, c.if-limit.false)) (omega (arith, c.limit-limit.ensures)) source.gives_nothing source.gives_in_order source.gives_from_front came.held (subst (λ (n : ℕ). RefusedFor (within g.R.Source) (BytesRefused n) c.args.within.now c.gather-gathered.new.src c.in-Err.error) c.limit-limit.ensures (IfErr-at_err _ c.in-Err.is c.gather-gathered.ensures.refused)) (λ ends. c.gather-gathered.ensures.ended (c.in-Err.is ∙ ap Err ends)) (omega (arith, c.turn_by.ensures, ap (λ (n : ℕ). n / g.row.K) count))
