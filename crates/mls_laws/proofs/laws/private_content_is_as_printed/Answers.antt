use Rattle.tls_presentation.specs.Meaning.{same_bytes}
use Rattle.mls.specs.PrivateContent.{private_content_format_for}
use Rattle.mls_laws.proofs.Sayings.{private_content_saying}
use Rattle.mls_laws.proofs.laws.private_content_is_as_printed.Goals as goal

pub returns-clause-bytes : goal.returns-clause-bytes
returns-clause-bytes c = λ u. same_bytes (private_content_format_for u)

pub returns-clause-values : goal.returns-clause-values
returns-clause-values c = private_content_saying
