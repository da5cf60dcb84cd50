use Rattle.tls_presentation.specs.Meaning.{same_bytes}
use Rattle.mls_group.specs.PreSharedKey.{pre_shared_key_format}
use Rattle.mls_group_laws.proofs.Sayings.{pre_shared_key_saying}
use Rattle.mls_group_laws.proofs.laws.pre_shared_key_is_as_printed.Goals as goal

pub returns-clause-bytes : goal.returns-clause-bytes
returns-clause-bytes c = λ u. same_bytes pre_shared_key_format

pub returns-clause-values : goal.returns-clause-values
returns-clause-values c = pre_shared_key_saying
