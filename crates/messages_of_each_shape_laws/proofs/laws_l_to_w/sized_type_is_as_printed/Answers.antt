use Rattle.tls_presentation.specs.Meaning.{same_bytes}
use Rattle.messages_of_each_shape.specs.SizedType.{sized_type_format}
use Rattle.messages_of_each_shape_laws.proofs.Sayings.{sized_type_saying}
use Rattle.messages_of_each_shape_laws.proofs.laws_l_to_w.sized_type_is_as_printed.Goals as goal

pub returns-clause-bytes : goal.returns-clause-bytes
returns-clause-bytes c = λ u. same_bytes sized_type_format

pub returns-clause-values : goal.returns-clause-values
returns-clause-values c = sized_type_saying
