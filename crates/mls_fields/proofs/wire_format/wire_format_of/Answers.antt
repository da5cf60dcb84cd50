use Rattle.std.proofs.Common.{◌≡◌, ℕ, subst, arith}
use Rattle.tls_codec.specs.OwnMessages.{fields_format, nothing_format, number_format}
use Rattle.tls_codec_outcome.specs.Fields.{BeginsAt, IsTagAt}
use Rattle.tls_codec_outcome.proofs.FieldPlaces.{first_begins}
use Rattle.tls_codec_outcome.proofs.Tags.{tag_of_second}
use Rattle.mls_group.specs.ProtocolVersionMls10.{protocol_version_mls10_format, protocol_version_mls10_meets}
use Rattle.mls.specs.MLSMessageBody.{mls_message_body_format, mls_message_body_variants}
use Rattle.mls_fields.proofs.wire_format.wire_format_of.Goals as goal

pub returns : goal.returns
returns c at =
    let x = c.args.bytes.now in
    let begins = first_begins protocol_version_mls10_format (fields_format mls_message_body_format nothing_format) x 0 at in
    let version = c.locate-version_end.ensures.places begins in
    let size = c.locate-version_end.result.0.size in
    let place : c.locate-version_end.result.1 ≡ size = omega (arith, c.locate-version_end.ensures.end begins, version.0) in
    let told = subst (λ (n : ℕ). BeginsAt (number_format 2) x n → IsTagAt 2 x n c.tag_at.result) place c.tag_at.ensures in
    let found = tag_of_second protocol_version_mls10_format protocol_version_mls10_meets mls_message_body_variants x size c.tag_at.result version.1 told at in
    record { version = found.0; message = found.1; rest = found.2; begins = found.3 }
