use Rattle.tls_presentation.specs.Meaning.{same_bytes}
use Rattle.mls_tree.specs.Lifetime.{lifetime_format}
use Rattle.mls_tree_laws.proofs.Sayings.{lifetime_saying}
use Rattle.mls_tree_laws.proofs.laws.lifetime_is_as_printed.Goals as goal

pub returns-clause-bytes : goal.returns-clause-bytes
returns-clause-bytes c = λ u. same_bytes lifetime_format

pub returns-clause-values : goal.returns-clause-values
returns-clause-values c = lifetime_saying
