use Rattle.tls_presentation.specs.Meaning.{same_bytes}
use Rattle.mls_group.specs.ExternalPub.{external_pub_format}
use Rattle.mls_group_laws.proofs.Sayings.{external_pub_saying}
use Rattle.mls_group_laws.proofs.laws.external_pub_is_as_printed.Goals as goal

pub returns-clause-bytes : goal.returns-clause-bytes
returns-clause-bytes c = λ u. same_bytes external_pub_format

pub returns-clause-values : goal.returns-clause-values
returns-clause-values c = external_pub_saying
