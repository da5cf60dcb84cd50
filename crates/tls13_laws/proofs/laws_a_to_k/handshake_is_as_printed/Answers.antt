use Rattle.tls_presentation.specs.Meaning.{same_bytes}
use Rattle.tls13.specs.Handshake.{handshake_format}
use Rattle.tls13_laws.proofs.Sayings.{handshake_saying}
use Rattle.tls13_laws.proofs.laws_a_to_k.handshake_is_as_printed.Goals as goal

pub returns-clause-bytes : goal.returns-clause-bytes
returns-clause-bytes c = λ u. same_bytes handshake_format

pub returns-clause-values : goal.returns-clause-values
returns-clause-values c = handshake_saying
