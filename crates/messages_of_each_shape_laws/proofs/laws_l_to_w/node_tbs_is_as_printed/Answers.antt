use Rattle.tls_presentation.specs.Meaning.{same_bytes}
use Rattle.messages_of_each_shape.specs.NodeTBS.{node_tbs_format}
use Rattle.messages_of_each_shape_laws.proofs.Sayings.{node_tbs_saying}
use Rattle.messages_of_each_shape_laws.proofs.laws_l_to_w.node_tbs_is_as_printed.Goals as goal

pub returns-clause-bytes : goal.returns-clause-bytes
returns-clause-bytes c = λ u. same_bytes node_tbs_format

pub returns-clause-values : goal.returns-clause-values
returns-clause-values c = node_tbs_saying
