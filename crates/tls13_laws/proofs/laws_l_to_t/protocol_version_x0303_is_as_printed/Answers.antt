use Rattle.tls_presentation.specs.Meaning.{same_bytes}
use Rattle.tls13.specs.ProtocolVersionX0303.{protocol_version_x0303_format}
use Rattle.tls13_laws.proofs.Sayings.{protocol_version_x0303_saying}
use Rattle.tls13_laws.proofs.laws_l_to_t.protocol_version_x0303_is_as_printed.Goals as goal

pub returns-clause-bytes : goal.returns-clause-bytes
returns-clause-bytes c = λ u. same_bytes protocol_version_x0303_format

pub returns-clause-values : goal.returns-clause-values
returns-clause-values c = protocol_version_x0303_saying
