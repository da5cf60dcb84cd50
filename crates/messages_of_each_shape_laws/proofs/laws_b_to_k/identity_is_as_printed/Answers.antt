use Rattle.tls_presentation.specs.Meaning.{same_bytes}
use Rattle.messages_of_each_shape.specs.Identity.{identity_format}
use Rattle.messages_of_each_shape_laws.proofs.Sayings.{identity_saying}
use Rattle.messages_of_each_shape_laws.proofs.laws_b_to_k.identity_is_as_printed.Goals as goal

pub returns-clause-bytes : goal.returns-clause-bytes
returns-clause-bytes c = λ u. same_bytes identity_format

pub returns-clause-values : goal.returns-clause-values
returns-clause-values c = identity_saying
