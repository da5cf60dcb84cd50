use Rattle.tls_presentation.specs.Meaning.{same_bytes}
use Rattle.mls_group.specs.ProtocolVersionMls10.{protocol_version_mls10_format}
use Rattle.mls_group_laws.proofs.Sayings.{protocol_version_mls10_saying}
use Rattle.mls_group_laws.proofs.laws.protocol_version_mls10_is_as_printed.Goals as goal

pub returns-clause-bytes : goal.returns-clause-bytes
returns-clause-bytes c = λ u. same_bytes protocol_version_mls10_format

pub returns-clause-values : goal.returns-clause-values
returns-clause-values c = protocol_version_mls10_saying
