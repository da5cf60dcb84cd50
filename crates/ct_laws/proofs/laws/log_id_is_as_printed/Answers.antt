use Rattle.tls_presentation.specs.Meaning.{same_bytes}
use Rattle.ct.specs.LogID.{log_id_format}
use Rattle.ct_laws.proofs.Sayings.{log_id_saying}
use Rattle.ct_laws.proofs.laws.log_id_is_as_printed.Goals as goal

pub returns-clause-bytes : goal.returns-clause-bytes
returns-clause-bytes c = λ u. same_bytes log_id_format

pub returns-clause-values : goal.returns-clause-values
returns-clause-values c = log_id_saying
