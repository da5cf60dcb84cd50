use Rattle.tls_presentation.specs.Meaning.{same_bytes}
use Rattle.mls_group.specs.UpdatePathNode.{update_path_node_format}
use Rattle.mls_group_laws.proofs.Sayings.{update_path_node_saying}
use Rattle.mls_group_laws.proofs.laws.update_path_node_is_as_printed.Goals as goal

pub returns-clause-bytes : goal.returns-clause-bytes
returns-clause-bytes c = λ u. same_bytes update_path_node_format

pub returns-clause-values : goal.returns-clause-values
returns-clause-values c = update_path_node_saying
