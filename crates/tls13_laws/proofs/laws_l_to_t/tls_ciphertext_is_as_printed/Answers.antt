use Rattle.tls_presentation.specs.Meaning.{same_bytes}
use Rattle.tls13.specs.TLSCiphertext.{tls_ciphertext_format}
use Rattle.tls13_laws.proofs.Sayings.{tls_ciphertext_saying}
use Rattle.tls13_laws.proofs.laws_l_to_t.tls_ciphertext_is_as_printed.Goals as goal

pub returns-clause-bytes : goal.returns-clause-bytes
returns-clause-bytes c = λ u. same_bytes tls_ciphertext_format

pub returns-clause-values : goal.returns-clause-values
returns-clause-values c = tls_ciphertext_saying
