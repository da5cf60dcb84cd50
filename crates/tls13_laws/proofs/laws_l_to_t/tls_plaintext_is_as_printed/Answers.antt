use Rattle.tls_presentation.specs.Meaning.{same_bytes}
use Rattle.tls13.specs.TLSPlaintext.{tls_plaintext_format}
use Rattle.tls13_laws.proofs.Sayings.{tls_plaintext_saying}
use Rattle.tls13_laws.proofs.laws_l_to_t.tls_plaintext_is_as_printed.Goals as goal

pub returns-clause-bytes : goal.returns-clause-bytes
returns-clause-bytes c = λ u. same_bytes tls_plaintext_format

pub returns-clause-values : goal.returns-clause-values
returns-clause-values c = tls_plaintext_saying
