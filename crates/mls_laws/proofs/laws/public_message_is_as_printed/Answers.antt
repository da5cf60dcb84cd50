use Rattle.tls_presentation.specs.Meaning.{same_bytes}
use Rattle.mls.specs.PublicMessage.{public_message_format}
use Rattle.mls_laws.proofs.Sayings.{public_message_saying}
use Rattle.mls_laws.proofs.laws.public_message_is_as_printed.Goals as goal

pub returns-clause-bytes : goal.returns-clause-bytes
returns-clause-bytes c = λ u. same_bytes public_message_format

pub returns-clause-values : goal.returns-clause-values
returns-clause-values c = public_message_saying
