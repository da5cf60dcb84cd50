use Rattle.tls_presentation.specs.Meaning.{same_bytes}
use Rattle.ct.specs.MerkleTreeLeaf.{merkle_tree_leaf_format}
use Rattle.ct_laws.proofs.Sayings.{merkle_tree_leaf_saying}
use Rattle.ct_laws.proofs.laws.merkle_tree_leaf_is_as_printed.Goals as goal

pub returns-clause-bytes : goal.returns-clause-bytes
returns-clause-bytes c = λ u. same_bytes merkle_tree_leaf_format

pub returns-clause-values : goal.returns-clause-values
returns-clause-values c = merkle_tree_leaf_saying
