use Rattle.tls_presentation.specs.Meaning.{same_bytes}
use Rattle.mls_tree.specs.LeafNodeTBSOrigin.{leaf_node_tbs_origin_format}
use Rattle.mls_tree_laws.proofs.Sayings.{leaf_node_tbs_origin_saying}
use Rattle.mls_tree_laws.proofs.laws.leaf_node_tbs_origin_is_as_printed.Goals as goal

pub returns-clause-bytes : goal.returns-clause-bytes
returns-clause-bytes c = λ u. same_bytes leaf_node_tbs_origin_format

pub returns-clause-values : goal.returns-clause-values
returns-clause-values c = leaf_node_tbs_origin_saying
