use Rattle.tls_presentation.specs.Meaning.{same_bytes}
use Rattle.mls_group.specs.Welcome.{welcome_format}
use Rattle.mls_group_laws.proofs.Sayings.{welcome_saying}
use Rattle.mls_group_laws.proofs.laws.welcome_is_as_printed.Goals as goal

pub returns-clause-bytes : goal.returns-clause-bytes
returns-clause-bytes c = λ u. same_bytes welcome_format

pub returns-clause-values : goal.returns-clause-values
returns-clause-values c = welcome_saying
