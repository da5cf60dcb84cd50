use Rattle.tls_presentation.specs.Meaning.{same_bytes}
use Rattle.mls_group.specs.PSKOrigin.{psk_origin_format}
use Rattle.mls_group_laws.proofs.Sayings.{psk_origin_saying}
use Rattle.mls_group_laws.proofs.laws.psk_origin_is_as_printed.Goals as goal

pub returns-clause-bytes : goal.returns-clause-bytes
returns-clause-bytes c = λ u. same_bytes psk_origin_format

pub returns-clause-values : goal.returns-clause-values
returns-clause-values c = psk_origin_saying
