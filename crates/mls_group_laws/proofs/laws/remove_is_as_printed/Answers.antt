use Rattle.tls_presentation.specs.Meaning.{same_bytes}
use Rattle.mls_group.specs.Remove.{remove_format}
use Rattle.mls_group_laws.proofs.Sayings.{remove_saying}
use Rattle.mls_group_laws.proofs.laws.remove_is_as_printed.Goals as goal

pub returns-clause-bytes : goal.returns-clause-bytes
returns-clause-bytes c = λ u. same_bytes remove_format

pub returns-clause-values : goal.returns-clause-values
returns-clause-values c = remove_saying
