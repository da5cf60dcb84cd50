use Rattle.tls_presentation.specs.Meaning.{same_bytes}
use Rattle.tls13.specs.NamedGroupList.{named_group_list_format}
use Rattle.tls13_laws.proofs.Sayings.{named_group_list_saying}
use Rattle.tls13_laws.proofs.laws_l_to_t.named_group_list_is_as_printed.Goals as goal

pub returns-clause-bytes : goal.returns-clause-bytes
returns-clause-bytes c = λ u. same_bytes named_group_list_format

pub returns-clause-values : goal.returns-clause-values
returns-clause-values c = named_group_list_saying
