use Rattle.tls_presentation.specs.Meaning.{same_bytes}
use Rattle.mls_group.specs.EncryptedGroupSecrets.{encrypted_group_secrets_format}
use Rattle.mls_group_laws.proofs.Sayings.{encrypted_group_secrets_saying}
use Rattle.mls_group_laws.proofs.laws.encrypted_group_secrets_is_as_printed.Goals as goal

pub returns-clause-bytes : goal.returns-clause-bytes
returns-clause-bytes c = λ u. same_bytes encrypted_group_secrets_format

pub returns-clause-values : goal.returns-clause-values
returns-clause-values c = encrypted_group_secrets_saying
