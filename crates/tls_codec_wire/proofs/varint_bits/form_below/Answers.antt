use Rattle.std.proofs.Common.{arith}
use Rattle.tls_codec_wire.proofs.VarintForms.{laid_out}
use Rattle.tls_codec_wire.proofs.varint_bits.form_below.Goals as goal

pub returns : goal.returns
returns g c = (omega arith, rw c.to_be_bytes.ensures (laid_out _ _ _ _ c.in_ok-mark.ensures.1 c.in_ok-mark.ensures.0))
