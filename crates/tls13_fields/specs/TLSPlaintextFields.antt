-- The fields of TLSPlaintext.
use Rattle.std.specs.Prelude.{ℕ, List}
use Rattle.tls_codec.specs.OwnMessages.{number_format}
use Rattle.tls_codec_outcome.specs.Fields.{IsContentFrom, IsFieldFrom, span_end}
use Rattle.tls_codec_grammar.specs.Field.{fixed_field}
use Rattle.tls13.specs.ContentType.{content_type_format}
use Rattle.tls13_fields.specs.declared.tls_plaintext.TLSPlaintextFields.{TLSPlaintextFields}

-- x begins with them, one after the other
pub record AreTLSPlaintextFields (x : List ℕ) (f : TLSPlaintextFields) : Type 0 where
  pub kind : IsFieldFrom content_type_format x 0 f.kind
  pub legacy_record_version : IsFieldFrom (number_format 2) x (span_end f.kind) f.legacy_record_version
  pub fragment : IsContentFrom (fixed_field 2) x (span_end f.legacy_record_version) f.fragment
