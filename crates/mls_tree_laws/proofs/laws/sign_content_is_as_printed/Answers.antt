use Rattle.tls_presentation.specs.Meaning.{same_bytes}
use Rattle.mls_tree.specs.SignContent.{sign_content_format}
use Rattle.mls_tree_laws.proofs.Sayings.{sign_content_saying}
use Rattle.mls_tree_laws.proofs.laws.sign_content_is_as_printed.Goals as goal

pub returns-clause-bytes : goal.returns-clause-bytes
returns-clause-bytes c = λ u. same_bytes sign_content_format

pub returns-clause-values : goal.returns-clause-values
returns-clause-values c = sign_content_saying
