use Rattle.tls_presentation.specs.Meaning.{same_bytes}
use Rattle.messages_of_each_shape.specs.Pixel.{pixel_format}
use Rattle.messages_of_each_shape_laws.proofs.Sayings.{pixel_saying}
use Rattle.messages_of_each_shape_laws.proofs.laws_l_to_w.pixel_is_as_printed.Goals as goal

pub returns-clause-bytes : goal.returns-clause-bytes
returns-clause-bytes c = λ u. same_bytes pixel_format

pub returns-clause-values : goal.returns-clause-values
returns-clause-values c = pixel_saying
