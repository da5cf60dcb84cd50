use Rattle.tls_presentation.specs.Meaning.{same_bytes}
use Rattle.ct.specs.TimestampedEntry.{timestamped_entry_format}
use Rattle.ct_laws.proofs.Sayings.{timestamped_entry_saying}
use Rattle.ct_laws.proofs.laws.timestamped_entry_is_as_printed.Goals as goal

pub returns-clause-bytes : goal.returns-clause-bytes
returns-clause-bytes c = λ u. same_bytes timestamped_entry_format

pub returns-clause-values : goal.returns-clause-values
returns-clause-values c = timestamped_entry_saying
