use Rattle.std.proofs.Common.{arith}
use Rattle.tls_codec_validate.proofs.Validating.{rejects}
use Rattle.tls_codec_outcome.proofs.FieldPlaces.{is_content}
use Rattle.tls_codec_outcome.proofs.fields.content_at.Goals as goal

pub returns-in-Ok : goal.returns-in-Ok
returns-in-Ok g c at =
    let split = rw c.bytes_from.ensures at c.in-Ok.ensures.splits in
    is_content g.F.LengthField.field c.args.bytes.now c.args.from c.in-Ok.content.now c.in-Ok.rest.now at.within split _ (omega (arith, c.saturating_sub.ensures, c.saturating_sub-in-Ok.ensures))

pub returns-in-Err : goal.returns-in-Err
returns-in-Err g c at = absurd ((rejects c.in-Err.ensures.splits).none at.begins.value at.begins.rest (rw c.bytes_from.ensures at.begins.begins))
