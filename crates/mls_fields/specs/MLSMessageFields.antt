-- The fields of MLSMessage.
use Rattle.std.specs.Prelude.{ℕ, List}
use Rattle.tls_codec_outcome.specs.Cases.{IsCaseFrom}
use Rattle.tls_codec_outcome.specs.Fields.{IsFieldFrom, span_end}
use Rattle.mls.specs.MLSMessageBody.{mls_message_body_variants}
use Rattle.mls_group.specs.ProtocolVersionMls10.{protocol_version_mls10_format}
use Rattle.mls_fields.specs.declared.mls_message.MLSMessageFields.{MLSMessageFields}

-- x begins with them, one after the other; the tag of two bytes decides what is after it
pub record AreMLSMessageFields (x : List ℕ) (f : MLSMessageFields) : Type 0 where
  pub version : IsFieldFrom protocol_version_mls10_format x 0 f.version
  pub body : IsCaseFrom 2 mls_message_body_variants x (span_end f.version)
      f.wire_format f.body
