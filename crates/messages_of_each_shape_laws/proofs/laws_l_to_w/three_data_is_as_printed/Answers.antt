use Rattle.tls_presentation.specs.Meaning.{same_bytes}
use Rattle.messages_of_each_shape.specs.ThreeData.{three_data_format}
use Rattle.messages_of_each_shape_laws.proofs.Sayings.{three_data_saying}
use Rattle.messages_of_each_shape_laws.proofs.laws_l_to_w.three_data_is_as_printed.Goals as goal

pub returns-clause-bytes : goal.returns-clause-bytes
returns-clause-bytes c = λ u. same_bytes three_data_format

pub returns-clause-values : goal.returns-clause-values
returns-clause-values c = three_data_saying
