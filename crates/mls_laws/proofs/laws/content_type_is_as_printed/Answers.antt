use Rattle.tls_presentation.specs.Meaning.{same_bytes}
use Rattle.mls.specs.ContentType.{content_type_format}
use Rattle.mls_laws.proofs.Sayings.{content_type_saying, content_type_naming}
use Rattle.mls_laws.proofs.laws.content_type_is_as_printed.Goals as goal

pub returns-clause-bytes : goal.returns-clause-bytes
returns-clause-bytes c = λ u. same_bytes content_type_format

pub returns-clause-values : goal.returns-clause-values
returns-clause-values c = content_type_saying

pub returns-clause-names : goal.returns-clause-names
returns-clause-names c = content_type_naming
