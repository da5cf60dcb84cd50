-- The fields of CertificateVerify.
use Rattle.std.specs.Prelude.{ℕ, List}
use Rattle.tls_codec_outcome.specs.Fields.{IsContentFrom, IsFieldFrom, span_end}
use Rattle.tls_codec_grammar.specs.Field.{fixed_field}
use Rattle.tls13.specs.SignatureScheme.{signature_scheme_format}
use Rattle.tls13_fields.specs.declared.certificate_verify.CertificateVerifyFields.{CertificateVerifyFields}

-- x begins with them, one after the other
pub record AreCertificateVerifyFields (x : List ℕ) (f : CertificateVerifyFields) : Type 0 where
  pub algorithm : IsFieldFrom signature_scheme_format x 0 f.algorithm
  pub signature : IsContentFrom (fixed_field 2) x (span_end f.algorithm) f.signature
