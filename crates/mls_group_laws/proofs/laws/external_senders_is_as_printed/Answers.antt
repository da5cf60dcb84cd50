use Rattle.tls_presentation.specs.Meaning.{same_bytes}
use Rattle.mls_group.specs.ExternalSenders.{external_senders_format}
use Rattle.mls_group_laws.proofs.Sayings.{external_senders_saying}
use Rattle.mls_group_laws.proofs.laws.external_senders_is_as_printed.Goals as goal

pub returns-clause-bytes : goal.returns-clause-bytes
returns-clause-bytes c = λ u. same_bytes external_senders_format

pub returns-clause-values : goal.returns-clause-values
returns-clause-values c = external_senders_saying
