use Rattle.tls_presentation.specs.Meaning.{same_bytes}
use Rattle.tls13.specs.OfferedPsks.{offered_psks_format}
use Rattle.tls13_laws.proofs.Sayings.{offered_psks_saying}
use Rattle.tls13_laws.proofs.laws_l_to_t.offered_psks_is_as_printed.Goals as goal

pub returns-clause-bytes : goal.returns-clause-bytes
returns-clause-bytes c = λ u. same_bytes offered_psks_format

pub returns-clause-values : goal.returns-clause-values
returns-clause-values c = offered_psks_saying
