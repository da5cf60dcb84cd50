use Rattle.std.proofs.Common.{refl}
use Rattle.tls_presentation.specs.Meaning.{same_bytes}
use Rattle.tls13.specs.ContentType.{content_type_format}
use Rattle.tls13_laws.proofs.Sayings.{content_type_saying}
use Rattle.tls13_laws.proofs.laws_a_to_k.content_type_is_as_printed.Goals as goal

pub returns-clause-bytes : goal.returns-clause-bytes
returns-clause-bytes c = λ u. same_bytes content_type_format

pub returns-clause-values : goal.returns-clause-values
returns-clause-values c = content_type_saying

pub returns-clause-names : goal.returns-clause-names
returns-clause-names c = refl
