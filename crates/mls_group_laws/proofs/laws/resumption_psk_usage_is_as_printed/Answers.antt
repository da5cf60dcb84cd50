use Rattle.tls_presentation.specs.Meaning.{same_bytes}
use Rattle.mls_group.specs.ResumptionPSKUsage.{resumption_psk_usage_format}
use Rattle.mls_group_laws.proofs.Sayings.{resumption_psk_usage_saying, resumption_psk_usage_naming}
use Rattle.mls_group_laws.proofs.laws.resumption_psk_usage_is_as_printed.Goals as goal

pub returns-clause-bytes : goal.returns-clause-bytes
returns-clause-bytes c = λ u. same_bytes resumption_psk_usage_format

pub returns-clause-values : goal.returns-clause-values
returns-clause-values c = resumption_psk_usage_saying

pub returns-clause-names : goal.returns-clause-names
returns-clause-names c = resumption_psk_usage_naming
