use Rattle.std.proofs.Common.{refl}
use Rattle.tls_presentation.specs.Meaning.{same_bytes}
use Rattle.mls_tree.specs.ProtocolVersion.{protocol_version_format}
use Rattle.mls_tree_laws.proofs.Sayings.{protocol_version_saying}
use Rattle.mls_tree_laws.proofs.laws.protocol_version_is_as_printed.Goals as goal

pub returns-clause-bytes : goal.returns-clause-bytes
returns-clause-bytes c = λ u. same_bytes protocol_version_format

pub returns-clause-values : goal.returns-clause-values
returns-clause-values c = protocol_version_saying

pub returns-clause-names : goal.returns-clause-names
returns-clause-names c = refl
