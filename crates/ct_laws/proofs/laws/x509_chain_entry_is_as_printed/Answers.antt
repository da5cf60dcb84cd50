use Rattle.tls_presentation.specs.Meaning.{same_bytes}
use Rattle.ct.specs.X509ChainEntry.{x509_chain_entry_format}
use Rattle.ct_laws.proofs.Sayings.{x509_chain_entry_saying}
use Rattle.ct_laws.proofs.laws.x509_chain_entry_is_as_printed.Goals as goal

pub returns-clause-bytes : goal.returns-clause-bytes
returns-clause-bytes c = λ u. same_bytes x509_chain_entry_format

pub returns-clause-values : goal.returns-clause-values
returns-clause-values c = x509_chain_entry_saying
