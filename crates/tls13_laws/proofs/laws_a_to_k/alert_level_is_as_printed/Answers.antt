use Rattle.std.proofs.Common.{refl}
use Rattle.tls_presentation.specs.Meaning.{same_bytes}
use Rattle.tls13.specs.AlertLevel.{alert_level_format}
use Rattle.tls13_laws.proofs.Sayings.{alert_level_saying}
use Rattle.tls13_laws.proofs.laws_a_to_k.alert_level_is_as_printed.Goals as goal

pub returns-clause-bytes : goal.returns-clause-bytes
returns-clause-bytes c = λ u. same_bytes alert_level_format

pub returns-clause-values : goal.returns-clause-values
returns-clause-values c = alert_level_saying

pub returns-clause-names : goal.returns-clause-names
returns-clause-names c = refl
