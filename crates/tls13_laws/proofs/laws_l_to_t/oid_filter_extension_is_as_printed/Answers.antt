use Rattle.tls_presentation.specs.Meaning.{same_bytes}
use Rattle.tls13.specs.OIDFilterExtension.{oid_filter_extension_format}
use Rattle.tls13_laws.proofs.Sayings.{oid_filter_extension_saying}
use Rattle.tls13_laws.proofs.laws_l_to_t.oid_filter_extension_is_as_printed.Goals as goal

pub returns-clause-bytes : goal.returns-clause-bytes
returns-clause-bytes c = λ u. same_bytes oid_filter_extension_format

pub returns-clause-values : goal.returns-clause-values
returns-clause-values c = oid_filter_extension_saying
