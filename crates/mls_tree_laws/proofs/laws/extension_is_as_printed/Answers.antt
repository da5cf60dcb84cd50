use Rattle.tls_presentation.specs.Meaning.{same_bytes}
use Rattle.mls_tree.specs.Extension.{extension_format}
use Rattle.mls_tree_laws.proofs.Sayings.{extension_saying}
use Rattle.mls_tree_laws.proofs.laws.extension_is_as_printed.Goals as goal

pub returns-clause-bytes : goal.returns-clause-bytes
returns-clause-bytes c = λ u. same_bytes extension_format

pub returns-clause-values : goal.returns-clause-values
returns-clause-values c = extension_saying
