use Rattle.tls_presentation.specs.Meaning.{same_bytes}
use Rattle.messages_of_each_shape.specs.Carrier.{carrier_format}
use Rattle.messages_of_each_shape_laws.proofs.Sayings.{carrier_saying}
use Rattle.messages_of_each_shape_laws.proofs.laws_b_to_k.carrier_is_as_printed.Goals as goal

pub returns-clause-bytes : goal.returns-clause-bytes
returns-clause-bytes c = λ u. same_bytes carrier_format

pub returns-clause-values : goal.returns-clause-values
returns-clause-values c = carrier_saying
