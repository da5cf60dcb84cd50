-- The fields of Welcome.
use Rattle.std.specs.Prelude.{ℕ, List}
use Rattle.tls_codec.specs.OwnMessages.{list_format}
use Rattle.tls_codec_outcome.specs.Fields.{IsContentFrom, IsFieldFrom, span_end}
use Rattle.tls_codec_grammar.specs.Field.{variable_field}
use Rattle.mls_tree.specs.CipherSuite.{cipher_suite_format}
use Rattle.mls_group.specs.EncryptedGroupSecrets.{encrypted_group_secrets_format}
use Rattle.mls_fields.specs.declared.welcome.WelcomeFields.{WelcomeFields}

-- x begins with them, one after the other
pub record AreWelcomeFields (x : List ℕ) (f : WelcomeFields) : Type 0 where
  pub cipher_suite : IsFieldFrom cipher_suite_format x 0 f.cipher_suite
  pub secrets : IsFieldFrom (list_format encrypted_group_secrets_format) x (span_end f.cipher_suite) f.secrets
  pub encrypted_group_info : IsContentFrom variable_field x (span_end f.secrets) f.encrypted_group_info
