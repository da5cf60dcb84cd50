use Rattle.tls_presentation.specs.Meaning.{same_bytes}
use Rattle.ct.specs.PrecertChainEntry.{precert_chain_entry_format}
use Rattle.ct_laws.proofs.Sayings.{precert_chain_entry_saying}
use Rattle.ct_laws.proofs.laws.precert_chain_entry_is_as_printed.Goals as goal

pub returns-clause-bytes : goal.returns-clause-bytes
returns-clause-bytes c = λ u. same_bytes precert_chain_entry_format

pub returns-clause-values : goal.returns-clause-values
returns-clause-values c = precert_chain_entry_saying
