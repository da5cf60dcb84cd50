use Rattle.tls_presentation.specs.Meaning.{same_bytes}
use Rattle.mls_tree.specs.TreeHashInput.{tree_hash_input_format}
use Rattle.mls_tree_laws.proofs.Sayings.{tree_hash_input_saying}
use Rattle.mls_tree_laws.proofs.laws.tree_hash_input_is_as_printed.Goals as goal

pub returns-clause-bytes : goal.returns-clause-bytes
returns-clause-bytes c = λ u. same_bytes tree_hash_input_format

pub returns-clause-values : goal.returns-clause-values
returns-clause-values c = tree_hash_input_saying
