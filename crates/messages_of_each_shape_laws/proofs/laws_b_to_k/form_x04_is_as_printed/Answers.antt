use Rattle.tls_presentation.specs.Meaning.{same_bytes}
use Rattle.messages_of_each_shape.specs.FormX04.{form_x04_format}
use Rattle.messages_of_each_shape_laws.proofs.Sayings.{form_x04_saying}
use Rattle.messages_of_each_shape_laws.proofs.laws_b_to_k.form_x04_is_as_printed.Goals as goal

pub returns-clause-bytes : goal.returns-clause-bytes
returns-clause-bytes c = λ u. same_bytes form_x04_format

pub returns-clause-values : goal.returns-clause-values
returns-clause-values c = form_x04_saying
