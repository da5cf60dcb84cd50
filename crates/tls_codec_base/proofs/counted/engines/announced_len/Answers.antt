use Rattle.std.proofs.Common.{◌≡◌, ◌+◌, ◌∙◌, arith}
use Rattle.tls_codec_grammar.specs.Announced.{capped}
use Rattle.tls_codec_base.proofs.ListWriting.{counted_announced, counted_passes}
use Rattle.tls_codec_base.proofs.counted.engines.announced_len.Goals as goal

pub returns-in-Ok : goal.returns-in-Ok
returns-in-Ok g c =
    let total : c.saturating_add.result ≡ capped (g.F.LengthField.field.width c.in-Ok.length + c.in-Ok.length) = omega (arith, c.saturating_add.ensures, c.width.ensures) in
    total ∙ counted_announced g.F.LengthField.field.width _ _ _ c.in-Ok.ensures.ok

pub returns-in-Err : goal.returns-in-Err
returns-in-Err g c = counted_passes g.F.LengthField.field.width _ _ c.in-Err.ensures.err.1
