use Rattle.tls_presentation.specs.Meaning.{same_bytes}
use Rattle.messages_of_each_shape.specs.KindBody.{kind_body_format_for}
use Rattle.messages_of_each_shape_laws.proofs.Sayings.{kind_body_saying}
use Rattle.messages_of_each_shape_laws.proofs.laws_b_to_k.kind_body_is_as_printed.Goals as goal

pub returns-clause-bytes : goal.returns-clause-bytes
returns-clause-bytes c = λ u. same_bytes (kind_body_format_for u)

pub returns-clause-values : goal.returns-clause-values
returns-clause-values c = kind_body_saying
