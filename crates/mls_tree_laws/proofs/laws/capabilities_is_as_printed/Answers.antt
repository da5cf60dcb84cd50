use Rattle.tls_presentation.specs.Meaning.{same_bytes}
use Rattle.mls_tree.specs.Capabilities.{capabilities_format}
use Rattle.mls_tree_laws.proofs.Sayings.{capabilities_saying}
use Rattle.mls_tree_laws.proofs.laws.capabilities_is_as_printed.Goals as goal

pub returns-clause-bytes : goal.returns-clause-bytes
returns-clause-bytes c = λ u. same_bytes capabilities_format

pub returns-clause-values : goal.returns-clause-values
returns-clause-values c = capabilities_saying
