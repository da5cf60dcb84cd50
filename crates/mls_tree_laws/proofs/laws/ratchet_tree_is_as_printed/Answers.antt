use Rattle.tls_presentation.specs.Meaning.{same_bytes}
use Rattle.mls_tree.specs.RatchetTree.{ratchet_tree_format}
use Rattle.mls_tree_laws.proofs.Sayings.{ratchet_tree_saying}
use Rattle.mls_tree_laws.proofs.laws.ratchet_tree_is_as_printed.Goals as goal

pub returns-clause-bytes : goal.returns-clause-bytes
returns-clause-bytes c = λ u. same_bytes ratchet_tree_format

pub returns-clause-values : goal.returns-clause-values
returns-clause-values c = ratchet_tree_saying
