use Rattle.tls_presentation.specs.Meaning.{same_bytes}
use Rattle.mls_group.specs.ReInit.{re_init_format}
use Rattle.mls_group_laws.proofs.Sayings.{re_init_saying}
use Rattle.mls_group_laws.proofs.laws.re_init_is_as_printed.Goals as goal

pub returns-clause-bytes : goal.returns-clause-bytes
returns-clause-bytes c = λ u. same_bytes re_init_format

pub returns-clause-values : goal.returns-clause-values
returns-clause-values c = re_init_saying
