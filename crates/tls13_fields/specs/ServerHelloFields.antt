-- The fields of ServerHello.
use Rattle.std.specs.Prelude.{ℕ, List}
use Rattle.tls_codec.specs.OwnMessages.{array_format, bounded_list_format}
use Rattle.tls_codec_outcome.specs.Fields.{IsContentFrom, IsFieldFrom, span_end}
use Rattle.tls_codec_grammar.specs.Field.{bounded_field, fixed_field}
use Rattle.tls13.specs.Extension.{extension_format}
use Rattle.tls13.specs.LegacyCompressionMethodX00.{legacy_compression_method_x00_format}
use Rattle.tls13.specs.ProtocolVersionX0303.{protocol_version_x0303_format}
use Rattle.tls13_fields.specs.declared.server_hello.ServerHelloFields.{ServerHelloFields}

-- x begins with them, one after the other
pub record AreServerHelloFields (x : List ℕ) (f : ServerHelloFields) : Type 0 where
  pub legacy_version : IsFieldFrom protocol_version_x0303_format x 0 f.legacy_version
  pub random : IsFieldFrom (array_format 32) x (span_end f.legacy_version) f.random
  pub legacy_session_id_echo : IsContentFrom (bounded_field 0 32 (fixed_field 1)) x (span_end f.random) f.legacy_session_id_echo
  pub cipher_suite : IsFieldFrom (array_format 2) x (span_end f.legacy_session_id_echo) f.cipher_suite
  pub legacy_compression_method : IsFieldFrom legacy_compression_method_x00_format x (span_end f.cipher_suite) f.legacy_compression_method
  pub extensions : IsFieldFrom (bounded_list_format 2 6 65535 extension_format) x (span_end f.legacy_compression_method) f.extensions
