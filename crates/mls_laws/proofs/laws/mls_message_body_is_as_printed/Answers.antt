use Rattle.tls_presentation.specs.Meaning.{same_bytes}
use Rattle.mls.specs.MLSMessageBody.{mls_message_body_format}
use Rattle.mls_laws.proofs.Sayings.{mls_message_body_saying}
use Rattle.mls_laws.proofs.laws.mls_message_body_is_as_printed.Goals as goal

pub returns-clause-bytes : goal.returns-clause-bytes
returns-clause-bytes c = λ u. same_bytes mls_message_body_format

pub returns-clause-values : goal.returns-clause-values
returns-clause-values c = mls_message_body_saying
