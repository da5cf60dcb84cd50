use Rattle.std.proofs.Common.{arith}
use Rattle.std.proofs.lemmas.Result.{err_from_is_err_and}
use Rattle.tls_codec_grammar.specs.Tree.{Number, trees}
use Rattle.tls_codec_grammar.specs.Grammar.{content, number}
use Rattle.tls_codec_grammar.specs.Shortest.{IsShortest}
use Rattle.tls_codec_grammar.specs.Format.{content_format, number_format}
use Rattle.tls_codec_base.proofs.NumberRuns.{digits_in_a_row}
use Rattle.tls_codec_grammar.proofs.Sent.{breaks_whole}
use Rattle.tls_codec_base.proofs.numbers.groups.send_group.Goals as goal

pub returns-in_err-write_all : goal.returns-in_err-write_all
returns-in_err-write_all g c =
    let p = err_from_is_err_and c.from_residual.result c.from_residual.ensures.1 in
    let form : IsShortest (content (number g.row.K)) c.as_flattened-form.result.now (trees (λ x. Number (g.T.HasDigits.number x)) c.args.group.now) = rw c.as_flattened-form.ensures.value (digits_in_a_row g.row.K g.T.HasDigits.number c.args.group.now c.loop-i.digits (omega (arith, c.loop-i.invariant.0, c.requires.size)) (λ i lt. c.loop-i.invariant.1 i (omega (arith, lt)))) in
    rw (p.1, p.2) (breaks_whole (content_format (number_format g.row.K)) _ c.as_flattened-form.result.now form _ _ _ _ c.write_all.ensures.beginning c.in_err-write_all.ensures.refused c.write_all.ensures.counts)

pub returns : goal.returns
returns g c = record {
  form = c.as_flattened-form.result.now;
  shortest = rw c.as_flattened-form.ensures.value (digits_in_a_row g.row.K g.T.HasDigits.number c.args.group.now c.loop-i.digits (omega (arith, c.loop-i.invariant.0, c.requires.size)) (λ i lt. c.loop-i.invariant.1 i (omega (arith, lt))));
  held = c.in_ok-write_all.ensures.whole;
  count = omega arith;
  fell = c.write_all.ensures.counts;
}
