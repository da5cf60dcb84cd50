use Rattle.tls_presentation.specs.Meaning.{same_bytes}
use Rattle.mls_tree.specs.ParentNode.{parent_node_format}
use Rattle.mls_tree_laws.proofs.Sayings.{parent_node_saying}
use Rattle.mls_tree_laws.proofs.laws.parent_node_is_as_printed.Goals as goal

pub returns-clause-bytes : goal.returns-clause-bytes
returns-clause-bytes c = λ u. same_bytes parent_node_format

pub returns-clause-values : goal.returns-clause-values
returns-clause-values c = parent_node_saying
