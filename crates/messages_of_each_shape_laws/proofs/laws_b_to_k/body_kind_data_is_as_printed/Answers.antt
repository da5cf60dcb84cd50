use Rattle.tls_presentation.specs.Meaning.{same_bytes}
use Rattle.messages_of_each_shape.specs.BodyKindData.{body_kind_data_format_for}
use Rattle.messages_of_each_shape_laws.proofs.Sayings.{body_kind_data_saying}
use Rattle.messages_of_each_shape_laws.proofs.laws_b_to_k.body_kind_data_is_as_printed.Goals as goal

pub returns-clause-bytes : goal.returns-clause-bytes
returns-clause-bytes c = λ u. same_bytes (body_kind_data_format_for u)

pub returns-clause-values : goal.returns-clause-values
returns-clause-values c = body_kind_data_saying
