use Rattle.std.proofs.Common.{arith}
use Rattle.std.proofs.lemmas.List.{take_more}
use Rattle.tls_codec_wire.proofs.VarintReads.{number_more, below_more, pow_most}
use Rattle.tls_codec_wire.proofs.varint_bits.number_of_each.Goals as goal

pub overflow_mul-number : goal.overflow_mul-number
overflow_mul-number c = omega (arith, c.loop-digit.invariant.below, pow_most c.loop-digit.digit-index 6 (omega arith))

pub loop-digit-preserved : goal.loop-digit-preserved
loop-digit-preserved c = record {
  number = number_more _ _ _ _ _ _ c.loop-digit.invariant.number (take_more c.args.digits.now c.loop-digit.digit-index 0 c.loop-digit-test.true);
  below = below_more _ _ _ c.loop-digit.invariant.below (omega (arith, c.type_inv.digits c.loop-digit.digit-index));
}
