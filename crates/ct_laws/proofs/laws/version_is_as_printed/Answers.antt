use Rattle.tls_presentation.specs.Meaning.{same_bytes}
use Rattle.ct.specs.Version.{version_format}
use Rattle.ct_laws.proofs.Sayings.{version_saying, version_naming}
use Rattle.ct_laws.proofs.laws.version_is_as_printed.Goals as goal

pub returns-clause-bytes : goal.returns-clause-bytes
returns-clause-bytes c = λ u. same_bytes version_format

pub returns-clause-values : goal.returns-clause-values
returns-clause-values c = version_saying

pub returns-clause-names : goal.returns-clause-names
returns-clause-names c = version_naming
