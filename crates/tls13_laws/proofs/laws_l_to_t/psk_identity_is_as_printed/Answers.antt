use Rattle.tls_presentation.specs.Meaning.{same_bytes}
use Rattle.tls13.specs.PskIdentity.{psk_identity_format}
use Rattle.tls13_laws.proofs.Sayings.{psk_identity_saying}
use Rattle.tls13_laws.proofs.laws_l_to_t.psk_identity_is_as_printed.Goals as goal

pub returns-clause-bytes : goal.returns-clause-bytes
returns-clause-bytes c = λ u. same_bytes psk_identity_format

pub returns-clause-values : goal.returns-clause-values
returns-clause-values c = psk_identity_saying
