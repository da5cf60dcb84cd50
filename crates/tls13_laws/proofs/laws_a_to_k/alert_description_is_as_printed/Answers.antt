use Rattle.std.proofs.Common.{refl}
use Rattle.tls_presentation.specs.Meaning.{same_bytes}
use Rattle.tls13.specs.AlertDescription.{alert_description_format}
use Rattle.tls13_laws.proofs.Sayings.{alert_description_saying}
use Rattle.tls13_laws.proofs.laws_a_to_k.alert_description_is_as_printed.Goals as goal

pub returns-clause-bytes : goal.returns-clause-bytes
returns-clause-bytes c = λ u. same_bytes alert_description_format

pub returns-clause-values : goal.returns-clause-values
returns-clause-values c = alert_description_saying

pub returns-clause-names : goal.returns-clause-names
returns-clause-names c = refl
