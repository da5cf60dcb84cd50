-- The fields of Certificate.
use Rattle.std.specs.Prelude.{ℕ, List}
use Rattle.tls_codec.specs.OwnMessages.{fixed_list_format}
use Rattle.tls_codec_outcome.specs.Fields.{IsContentFrom, IsFieldFrom, span_end}
use Rattle.tls_codec_grammar.specs.Field.{fixed_field}
use Rattle.tls13.specs.CertificateEntry.{certificate_entry_format}
use Rattle.tls13_fields.specs.declared.certificate.CertificateFields.{CertificateFields}

-- x begins with them, one after the other
pub record AreCertificateFields (x : List ℕ) (f : CertificateFields) : Type 0 where
  pub certificate_request_context : IsContentFrom (fixed_field 1) x 0 f.certificate_request_context
  pub certificate_list : IsFieldFrom (fixed_list_format 3 certificate_entry_format) x (span_end f.certificate_request_context) f.certificate_list
