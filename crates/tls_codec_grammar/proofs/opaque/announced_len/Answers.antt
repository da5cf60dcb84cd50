use Rattle.std.proofs.Common.{◌<◌, ◌^◌, length, arith}
use Rattle.tls_codec_grammar.proofs.ByteContents.{bytes_announced}
use Rattle.tls_codec_grammar.proofs.opaque.announced_len.Goals as goal

pub returns : goal.returns
returns g c =
    let fits : length c.args.content.now < 2 ^ 64 = omega arith in
    let announced = bytes_announced g.F.LengthField.field.width c.args.content.now fits in
    omega (arith, c.saturating_add.ensures, c.width.ensures, announced)
