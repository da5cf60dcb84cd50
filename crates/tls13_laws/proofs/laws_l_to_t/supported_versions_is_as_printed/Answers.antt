use Rattle.tls_presentation.specs.Meaning.{same_bytes}
use Rattle.tls13.specs.SupportedVersions.{supported_versions_format_for}
use Rattle.tls13_laws.proofs.Sayings.{supported_versions_saying}
use Rattle.tls13_laws.proofs.laws_l_to_t.supported_versions_is_as_printed.Goals as goal

pub returns-clause-bytes : goal.returns-clause-bytes
returns-clause-bytes c = λ u. same_bytes (supported_versions_format_for u)

pub returns-clause-values : goal.returns-clause-values
returns-clause-values c = supported_versions_saying
