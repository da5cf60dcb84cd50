-- The fields of TLSCiphertext.
use Rattle.std.specs.Prelude.{ℕ, List}
use Rattle.tls_codec_outcome.specs.Fields.{IsContentFrom, IsFieldFrom, span_end}
use Rattle.tls_codec_grammar.specs.Field.{fixed_field}
use Rattle.tls13.specs.ContentTypeApplicationData.{content_type_application_data_format}
use Rattle.tls13.specs.ProtocolVersionX0303.{protocol_version_x0303_format}
use Rattle.tls13_fields.specs.declared.tls_ciphertext.TLSCiphertextFields.{TLSCiphertextFields}

-- x begins with them, one after the other
pub record AreTLSCiphertextFields (x : List ℕ) (f : TLSCiphertextFields) : Type 0 where
  pub opaque_type : IsFieldFrom content_type_application_data_format x 0 f.opaque_type
  pub legacy_record_version : IsFieldFrom protocol_version_x0303_format x (span_end f.opaque_type) f.legacy_record_version
  pub encrypted_record : IsContentFrom (fixed_field 2) x (span_end f.legacy_record_version) f.encrypted_record
