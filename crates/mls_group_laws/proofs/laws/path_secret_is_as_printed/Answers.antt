use Rattle.tls_presentation.specs.Meaning.{same_bytes}
use Rattle.mls_group.specs.PathSecret.{path_secret_format}
use Rattle.mls_group_laws.proofs.Sayings.{path_secret_saying}
use Rattle.mls_group_laws.proofs.laws.path_secret_is_as_printed.Goals as goal

pub returns-clause-bytes : goal.returns-clause-bytes
returns-clause-bytes c = λ u. same_bytes path_secret_format

pub returns-clause-values : goal.returns-clause-values
returns-clause-values c = path_secret_saying
