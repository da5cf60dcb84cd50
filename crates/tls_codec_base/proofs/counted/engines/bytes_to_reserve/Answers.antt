use Rattle.std.proofs.Common.{arith, inr}
use Rattle.tls_codec_base.proofs.ListWriting.{even_sum}
use Rattle.tls_codec_base.proofs.counted.engines.bytes_to_reserve.Goals as goal

pub returns-in-Some : goal.returns-in-Some
returns-in-Some g c =
    inr (omega (arith, c.saturating_mul.ensures, even_sum (g.K.ElementCoding.format c.args.coding.now).announced g.K.ElementCoding.plain c.in-Some.each c.args.elements.now c.in-Some.ensures))
