use Rattle.tls_presentation.specs.Meaning.{same_bytes}
use Rattle.mls_tree.specs.Credential.{credential_format}
use Rattle.mls_tree_laws.proofs.Sayings.{credential_saying}
use Rattle.mls_tree_laws.proofs.laws.credential_is_as_printed.Goals as goal

pub returns-clause-bytes : goal.returns-clause-bytes
returns-clause-bytes c = λ u. same_bytes credential_format

pub returns-clause-values : goal.returns-clause-values
returns-clause-values c = credential_saying
