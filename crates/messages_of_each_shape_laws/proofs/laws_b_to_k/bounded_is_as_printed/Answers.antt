use Rattle.tls_presentation.specs.Meaning.{same_bytes}
use Rattle.messages_of_each_shape.specs.Bounded.{bounded_format}
use Rattle.messages_of_each_shape_laws.proofs.Sayings.{bounded_saying}
use Rattle.messages_of_each_shape_laws.proofs.laws_b_to_k.bounded_is_as_printed.Goals as goal

pub returns-clause-bytes : goal.returns-clause-bytes
returns-clause-bytes c = λ u. same_bytes bounded_format

pub returns-clause-values : goal.returns-clause-values
returns-clause-values c = bounded_saying
