use Rattle.tls_presentation.specs.Meaning.{same_bytes}
use Rattle.mls.specs.PrivateMessage.{private_message_format}
use Rattle.mls_laws.proofs.Sayings.{private_message_saying}
use Rattle.mls_laws.proofs.laws.private_message_is_as_printed.Goals as goal

pub returns-clause-bytes : goal.returns-clause-bytes
returns-clause-bytes c = λ u. same_bytes private_message_format

pub returns-clause-values : goal.returns-clause-values
returns-clause-values c = private_message_saying
