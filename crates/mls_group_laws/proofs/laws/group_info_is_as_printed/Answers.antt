use Rattle.tls_presentation.specs.Meaning.{same_bytes}
use Rattle.mls_group.specs.GroupInfo.{group_info_format}
use Rattle.mls_group_laws.proofs.Sayings.{group_info_saying}
use Rattle.mls_group_laws.proofs.laws.group_info_is_as_printed.Goals as goal

pub returns-clause-bytes : goal.returns-clause-bytes
returns-clause-bytes c = λ u. same_bytes group_info_format

pub returns-clause-values : goal.returns-clause-values
returns-clause-values c = group_info_saying
