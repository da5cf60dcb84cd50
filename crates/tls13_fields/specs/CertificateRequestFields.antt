-- The fields of CertificateRequest.
use Rattle.std.specs.Prelude.{ℕ, List}
use Rattle.tls_codec.specs.OwnMessages.{bounded_list_format}
use Rattle.tls_codec_outcome.specs.Fields.{IsContentFrom, IsFieldFrom, span_end}
use Rattle.tls_codec_grammar.specs.Field.{fixed_field}
use Rattle.tls13.specs.Extension.{extension_format}
use Rattle.tls13_fields.specs.declared.certificate_request.CertificateRequestFields.{CertificateRequestFields}

-- x begins with them, one after the other
pub record AreCertificateRequestFields (x : List ℕ) (f : CertificateRequestFields) : Type 0 where
  pub certificate_request_context : IsContentFrom (fixed_field 1) x 0 f.certificate_request_context
  pub extensions : IsFieldFrom (bounded_list_format 2 2 65535 extension_format) x (span_end f.certificate_request_context) f.extensions
