use Rattle.tls_presentation.specs.Meaning.{same_bytes}
use Rattle.tls13.specs.EarlyDataIndication.{early_data_indication_format_for}
use Rattle.tls13_laws.proofs.Sayings.{early_data_indication_saying}
use Rattle.tls13_laws.proofs.laws_a_to_k.early_data_indication_is_as_printed.Goals as goal

pub returns-clause-bytes : goal.returns-clause-bytes
returns-clause-bytes c = λ u. same_bytes (early_data_indication_format_for u)

pub returns-clause-values : goal.returns-clause-values
returns-clause-values c = early_data_indication_saying
