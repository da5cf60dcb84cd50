use Rattle.tls_presentation.specs.Meaning.{same_bytes}
use Rattle.mls_tree.specs.Certificate.{certificate_format}
use Rattle.mls_tree_laws.proofs.Sayings.{certificate_saying}
use Rattle.mls_tree_laws.proofs.laws.certificate_is_as_printed.Goals as goal

pub returns-clause-bytes : goal.returns-clause-bytes
returns-clause-bytes c = λ u. same_bytes certificate_format

pub returns-clause-values : goal.returns-clause-values
returns-clause-values c = certificate_saying
