use Rattle.tls_presentation.specs.Meaning.{same_bytes}
use Rattle.tls13.specs.HandshakeType.{handshake_type_format}
use Rattle.tls13_laws.proofs.Sayings.{handshake_type_saying, handshake_type_naming}
use Rattle.tls13_laws.proofs.laws_a_to_k.handshake_type_is_as_printed.Goals as goal

pub returns-clause-bytes : goal.returns-clause-bytes
returns-clause-bytes c = λ u. same_bytes handshake_type_format

pub returns-clause-values : goal.returns-clause-values
returns-clause-values c = handshake_type_saying

pub returns-clause-names : goal.returns-clause-names
returns-clause-names c = handshake_type_naming
