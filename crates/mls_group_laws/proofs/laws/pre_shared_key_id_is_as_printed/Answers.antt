use Rattle.tls_presentation.specs.Meaning.{same_bytes}
use Rattle.mls_group.specs.PreSharedKeyID.{pre_shared_key_id_format}
use Rattle.mls_group_laws.proofs.Sayings.{pre_shared_key_id_saying}
use Rattle.mls_group_laws.proofs.laws.pre_shared_key_id_is_as_printed.Goals as goal

pub returns-clause-bytes : goal.returns-clause-bytes
returns-clause-bytes c = λ u. same_bytes pre_shared_key_id_format

pub returns-clause-values : goal.returns-clause-values
returns-clause-values c = pre_shared_key_id_saying
