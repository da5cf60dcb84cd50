use Rattle.std.proofs.Common.{refl}
use Rattle.tls_presentation.specs.Meaning.{same_bytes}
use Rattle.mls_tree.specs.ExtensionType.{extension_type_format}
use Rattle.mls_tree_laws.proofs.Sayings.{extension_type_saying}
use Rattle.mls_tree_laws.proofs.laws.extension_type_is_as_printed.Goals as goal

pub returns-clause-bytes : goal.returns-clause-bytes
returns-clause-bytes c = λ u. same_bytes extension_type_format

pub returns-clause-values : goal.returns-clause-values
returns-clause-values c = extension_type_saying

pub returns-clause-names : goal.returns-clause-names
returns-clause-names c = refl
