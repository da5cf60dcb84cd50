use Rattle.std.proofs.Common.{arith}
use Rattle.std.proofs.lemmas.Result.{err_from_is_err_and}
use Rattle.tls_codec_wire.proofs.Bytes.{are_bytes}
use Rattle.tls_codec_grammar.specs.Format.{number_format}
use Rattle.tls_codec_grammar.proofs.NumberCalls.{own_shortest}
use Rattle.tls_codec_grammar.proofs.Sent.{breaks_whole}
use Rattle.tls_codec_grammar.proofs.digits.write_digits.Goals as goal

pub returns-in_err-write_all-clause-writes : goal.returns-in_err-write_all-clause-writes
returns-in_err-write_all-clause-writes g c =
    let p = err_from_is_err_and c.from_residual.result c.from_residual.ensures.1 in
    rw (p.1, p.2) (breaks_whole (number_format _) _ _ (own_shortest _ (λ i. omega (arith, c.type_inv.digits i))) _ _ _ _ c.write_all.ensures.beginning c.in_err-write_all.ensures.refused c.write_all.ensures.counts)

pub returns-clause-writes : goal.returns-clause-writes
returns-clause-writes g c = record {
  form = _;
  shortest = own_shortest _ (λ i. omega (arith, c.type_inv.digits i));
  held = c.in_ok-write_all.ensures.whole;
  count = omega arith;
  fell = c.write_all.ensures.counts;
}

pub returns-in_err-write_all-clause-bytes : goal.returns-in_err-write_all-clause-bytes
returns-in_err-write_all-clause-bytes g c = are_bytes _ (λ i. omega (arith, c.type_inv.digits i))

pub returns-clause-bytes : goal.returns-clause-bytes
returns-clause-bytes g c = are_bytes _ (λ i. omega (arith, c.type_inv.digits i))
