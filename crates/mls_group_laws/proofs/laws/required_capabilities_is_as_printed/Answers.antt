use Rattle.tls_presentation.specs.Meaning.{same_bytes}
use Rattle.mls_group.specs.RequiredCapabilities.{required_capabilities_format}
use Rattle.mls_group_laws.proofs.Sayings.{required_capabilities_saying}
use Rattle.mls_group_laws.proofs.laws.required_capabilities_is_as_printed.Goals as goal

pub returns-clause-bytes : goal.returns-clause-bytes
returns-clause-bytes c = λ u. same_bytes required_capabilities_format

pub returns-clause-values : goal.returns-clause-values
returns-clause-values c = required_capabilities_saying
