use Rattle.tls_presentation.specs.Meaning.{same_bytes}
use Rattle.mls_group.specs.GroupSecrets.{group_secrets_format}
use Rattle.mls_group_laws.proofs.Sayings.{group_secrets_saying}
use Rattle.mls_group_laws.proofs.laws.group_secrets_is_as_printed.Goals as goal

pub returns-clause-bytes : goal.returns-clause-bytes
returns-clause-bytes c = λ u. same_bytes group_secrets_format

pub returns-clause-values : goal.returns-clause-values
returns-clause-values c = group_secrets_saying
