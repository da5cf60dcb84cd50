use Rattle.tls_presentation.specs.Meaning.{same_bytes}
use Rattle.mls_tree.specs.KeyPackage.{key_package_format}
use Rattle.mls_tree_laws.proofs.Sayings.{key_package_saying}
use Rattle.mls_tree_laws.proofs.laws.key_package_is_as_printed.Goals as goal

pub returns-clause-bytes : goal.returns-clause-bytes
returns-clause-bytes c = λ u. same_bytes key_package_format

pub returns-clause-values : goal.returns-clause-values
returns-clause-values c = key_package_saying
