use Rattle.tls_presentation.specs.Meaning.{same_bytes}
use Rattle.ct.specs.LogEntryTypeData.{log_entry_type_data_format}
use Rattle.ct_laws.proofs.Sayings.{log_entry_type_data_saying}
use Rattle.ct_laws.proofs.laws.log_entry_type_data_is_as_printed.Goals as goal

pub returns-clause-bytes : goal.returns-clause-bytes
returns-clause-bytes c = λ u. same_bytes log_entry_type_data_format

pub returns-clause-values : goal.returns-clause-values
returns-clause-values c = log_entry_type_data_saying
