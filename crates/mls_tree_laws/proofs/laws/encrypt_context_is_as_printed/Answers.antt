use Rattle.tls_presentation.specs.Meaning.{same_bytes}
use Rattle.mls_tree.specs.EncryptContext.{encrypt_context_format}
use Rattle.mls_tree_laws.proofs.Sayings.{encrypt_context_saying}
use Rattle.mls_tree_laws.proofs.laws.encrypt_context_is_as_printed.Goals as goal

pub returns-clause-bytes : goal.returns-clause-bytes
returns-clause-bytes c = λ u. same_bytes encrypt_context_format

pub returns-clause-values : goal.returns-clause-values
returns-clause-values c = encrypt_context_saying
