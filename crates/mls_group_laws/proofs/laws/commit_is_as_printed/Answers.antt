use Rattle.tls_presentation.specs.Meaning.{same_bytes}
use Rattle.mls_group.specs.Commit.{commit_format}
use Rattle.mls_group_laws.proofs.Sayings.{commit_saying}
use Rattle.mls_group_laws.proofs.laws.commit_is_as_printed.Goals as goal

pub returns-clause-bytes : goal.returns-clause-bytes
returns-clause-bytes c = λ u. same_bytes commit_format

pub returns-clause-values : goal.returns-clause-values
returns-clause-values c = commit_saying
