-- The fields of ClientHello.
use Rattle.std.specs.Prelude.{ℕ, List}
use Rattle.tls_codec.specs.OwnMessages.{array_format, bounded_list_format}
use Rattle.tls_codec_outcome.specs.Fields.{IsContentFrom, IsFieldFrom, span_end}
use Rattle.tls_codec_grammar.specs.Field.{bounded_field, fixed_field}
use Rattle.tls13.specs.Extension.{extension_format}
use Rattle.tls13.specs.ProtocolVersionX0303.{protocol_version_x0303_format}
use Rattle.tls13_fields.specs.declared.client_hello.ClientHelloFields.{ClientHelloFields}

-- x begins with them, one after the other
pub record AreClientHelloFields (x : List ℕ) (f : ClientHelloFields) : Type 0 where
  pub legacy_version : IsFieldFrom protocol_version_x0303_format x 0 f.legacy_version
  pub random : IsFieldFrom (array_format 32) x (span_end f.legacy_version) f.random
  pub legacy_session_id : IsContentFrom (bounded_field 0 32 (fixed_field 1)) x (span_end f.random) f.legacy_session_id
  pub cipher_suites : IsFieldFrom (bounded_list_format 2 2 65534 (array_format 2)) x (span_end f.legacy_session_id) f.cipher_suites
  pub legacy_compression_methods : IsContentFrom (bounded_field 1 255 (fixed_field 1)) x (span_end f.cipher_suites) f.legacy_compression_methods
  pub extensions : IsFieldFrom (bounded_list_format 2 8 65535 extension_format) x (span_end f.legacy_compression_methods) f.extensions
