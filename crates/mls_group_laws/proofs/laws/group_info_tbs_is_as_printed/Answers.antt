use Rattle.tls_presentation.specs.Meaning.{same_bytes}
use Rattle.mls_group.specs.GroupInfoTBS.{group_info_tbs_format}
use Rattle.mls_group_laws.proofs.Sayings.{group_info_tbs_saying}
use Rattle.mls_group_laws.proofs.laws.group_info_tbs_is_as_printed.Goals as goal

pub returns-clause-bytes : goal.returns-clause-bytes
returns-clause-bytes c = λ u. same_bytes group_info_tbs_format

pub returns-clause-values : goal.returns-clause-values
returns-clause-values c = group_info_tbs_saying
