-- The fields of GroupContext.
use Rattle.std.specs.Prelude.{ℕ, List}
use Rattle.tls_codec.specs.OwnMessages.{list_format, number_format}
use Rattle.tls_codec_outcome.specs.Fields.{IsContentFrom, IsFieldFrom, span_end}
use Rattle.tls_codec_grammar.specs.Field.{variable_field}
use Rattle.mls_tree.specs.CipherSuite.{cipher_suite_format}
use Rattle.mls_tree.specs.Extension.{extension_format}
use Rattle.mls_group.specs.ProtocolVersionMls10.{protocol_version_mls10_format}
use Rattle.mls_fields.specs.declared.group_context.GroupContextFields.{GroupContextFields}

-- x begins with them, one after the other
pub record AreGroupContextFields (x : List ℕ) (f : GroupContextFields) : Type 0 where
  pub version : IsFieldFrom protocol_version_mls10_format x 0 f.version
  pub cipher_suite : IsFieldFrom cipher_suite_format x (span_end f.version) f.cipher_suite
  pub group_id : IsContentFrom variable_field x (span_end f.cipher_suite) f.group_id
  pub epoch : IsFieldFrom (number_format 8) x (span_end f.group_id) f.epoch
  pub tree_hash : IsContentFrom variable_field x (span_end f.epoch) f.tree_hash
  pub confirmed_transcript_hash : IsContentFrom variable_field x (span_end f.tree_hash) f.confirmed_transcript_hash
  pub extensions : IsFieldFrom (list_format extension_format) x (span_end f.confirmed_transcript_hash) f.extensions
