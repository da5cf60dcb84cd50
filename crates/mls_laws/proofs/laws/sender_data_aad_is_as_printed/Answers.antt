use Rattle.tls_presentation.specs.Meaning.{same_bytes}
use Rattle.mls.specs.SenderDataAAD.{sender_data_aad_format}
use Rattle.mls_laws.proofs.Sayings.{sender_data_aad_saying}
use Rattle.mls_laws.proofs.laws.sender_data_aad_is_as_printed.Goals as goal

pub returns-clause-bytes : goal.returns-clause-bytes
returns-clause-bytes c = λ u. same_bytes sender_data_aad_format

pub returns-clause-values : goal.returns-clause-values
returns-clause-values c = sender_data_aad_saying
