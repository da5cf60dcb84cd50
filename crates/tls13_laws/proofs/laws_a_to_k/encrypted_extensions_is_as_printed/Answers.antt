use Rattle.tls_presentation.specs.Meaning.{same_bytes}
use Rattle.tls13.specs.EncryptedExtensions.{encrypted_extensions_format}
use Rattle.tls13_laws.proofs.Sayings.{encrypted_extensions_saying}
use Rattle.tls13_laws.proofs.laws_a_to_k.encrypted_extensions_is_as_printed.Goals as goal

pub returns-clause-bytes : goal.returns-clause-bytes
returns-clause-bytes c = λ u. same_bytes encrypted_extensions_format

pub returns-clause-values : goal.returns-clause-values
returns-clause-values c = encrypted_extensions_saying
