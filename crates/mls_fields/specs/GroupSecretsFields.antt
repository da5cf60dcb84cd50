-- The fields of GroupSecrets.
use Rattle.std.specs.Prelude.{ℕ, List}
use Rattle.tls_codec.specs.OwnMessages.{list_format, option_format}
use Rattle.tls_codec_outcome.specs.Fields.{IsContentFrom, IsFieldFrom, span_end}
use Rattle.tls_codec_grammar.specs.Field.{variable_field}
use Rattle.mls_group.specs.PathSecret.{path_secret_format}
use Rattle.mls_group.specs.PreSharedKeyID.{pre_shared_key_id_format}
use Rattle.mls_fields.specs.declared.group_secrets.GroupSecretsFields.{GroupSecretsFields}

-- x begins with them, one after the other
pub record AreGroupSecretsFields (x : List ℕ) (f : GroupSecretsFields) : Type 0 where
  pub joiner_secret : IsContentFrom variable_field x 0 f.joiner_secret
  pub path_secret : IsFieldFrom (option_format path_secret_format) x (span_end f.joiner_secret) f.path_secret
  pub psks : IsFieldFrom (list_format pre_shared_key_id_format) x (span_end f.path_secret) f.psks
