use Rattle.tls_presentation.specs.Meaning.{same_bytes}
use Rattle.messages_of_each_shape.specs.Named.{named_format}
use Rattle.messages_of_each_shape_laws.proofs.Sayings.{named_saying}
use Rattle.messages_of_each_shape_laws.proofs.laws_l_to_w.named_is_as_printed.Goals as goal

pub returns-clause-bytes : goal.returns-clause-bytes
returns-clause-bytes c = λ u. same_bytes named_format

pub returns-clause-values : goal.returns-clause-values
returns-clause-values c = named_saying
