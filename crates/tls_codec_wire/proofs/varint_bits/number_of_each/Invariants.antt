-- The number so far is that of the digits so far.
use Rattle.std.proofs.Common.{◌≡◌, ◌+◌, ◌*◌, ◌^◌, ◌<◌, take}
use Rattle.tls_codec_wire.specs.Digits.{value}
use Rattle.tls_codec_wire.proofs.varint_bits.number_of_each.Given as goal

abbrev pub invariant-loop-digit : goal.invariant-loop-digit
invariant-loop-digit l = record {
  number : l.number ≡ l.top * 256 ^ l.digit-index + value (take l.digit-index l.digits);
  below : l.number < 64 * 256 ^ l.digit-index;
}
