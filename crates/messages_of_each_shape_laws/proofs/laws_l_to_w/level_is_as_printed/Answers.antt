use Rattle.tls_presentation.specs.Meaning.{same_bytes}
use Rattle.messages_of_each_shape.specs.Level.{level_format}
use Rattle.messages_of_each_shape_laws.proofs.Sayings.{level_saying, level_naming}
use Rattle.messages_of_each_shape_laws.proofs.laws_l_to_w.level_is_as_printed.Goals as goal

pub returns-clause-bytes : goal.returns-clause-bytes
returns-clause-bytes c = λ u. same_bytes level_format

pub returns-clause-values : goal.returns-clause-values
returns-clause-values c = level_saying

pub returns-clause-names : goal.returns-clause-names
returns-clause-names c = level_naming
