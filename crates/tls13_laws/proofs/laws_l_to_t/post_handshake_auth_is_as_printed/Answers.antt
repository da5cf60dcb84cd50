use Rattle.tls_presentation.specs.Meaning.{same_bytes}
use Rattle.tls13.specs.PostHandshakeAuth.{post_handshake_auth_format}
use Rattle.tls13_laws.proofs.Sayings.{post_handshake_auth_saying}
use Rattle.tls13_laws.proofs.laws_l_to_t.post_handshake_auth_is_as_printed.Goals as goal

pub returns-clause-bytes : goal.returns-clause-bytes
returns-clause-bytes c = λ u. same_bytes post_handshake_auth_format

pub returns-clause-values : goal.returns-clause-values
returns-clause-values c = post_handshake_auth_saying
