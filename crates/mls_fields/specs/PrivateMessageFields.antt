-- The fields of PrivateMessage.
use Rattle.std.specs.Prelude.{ℕ, List}
use Rattle.tls_codec.specs.OwnMessages.{number_format}
use Rattle.tls_codec_outcome.specs.Fields.{IsContentFrom, IsFieldFrom, span_end}
use Rattle.tls_codec_grammar.specs.Field.{variable_field}
use Rattle.mls.specs.ContentType.{content_type_format}
use Rattle.mls_fields.specs.declared.private_message.PrivateMessageFields.{PrivateMessageFields}

-- x begins with them, one after the other
pub record ArePrivateMessageFields (x : List ℕ) (f : PrivateMessageFields) : Type 0 where
  pub group_id : IsContentFrom variable_field x 0 f.group_id
  pub epoch : IsFieldFrom (number_format 8) x (span_end f.group_id) f.epoch
  pub content_type : IsFieldFrom content_type_format x (span_end f.epoch) f.content_type
  pub authenticated_data : IsContentFrom variable_field x (span_end f.content_type) f.authenticated_data
  pub encrypted_sender_data : IsContentFrom variable_field x (span_end f.authenticated_data) f.encrypted_sender_data
  pub ciphertext : IsContentFrom variable_field x (span_end f.encrypted_sender_data) f.ciphertext
