use Rattle.tls_presentation.specs.Meaning.{same_bytes}
use Rattle.mls_group.specs.HPKECiphertext.{hpke_ciphertext_format}
use Rattle.mls_group_laws.proofs.Sayings.{hpke_ciphertext_saying}
use Rattle.mls_group_laws.proofs.laws.hpke_ciphertext_is_as_printed.Goals as goal

pub returns-clause-bytes : goal.returns-clause-bytes
returns-clause-bytes c = λ u. same_bytes hpke_ciphertext_format

pub returns-clause-values : goal.returns-clause-values
returns-clause-values c = hpke_ciphertext_saying
