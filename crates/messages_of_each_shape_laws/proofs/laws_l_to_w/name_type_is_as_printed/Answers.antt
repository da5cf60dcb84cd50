use Rattle.std.proofs.Common.{refl}
use Rattle.tls_presentation.specs.Meaning.{same_bytes}
use Rattle.messages_of_each_shape.specs.NameType.{name_type_format}
use Rattle.messages_of_each_shape_laws.proofs.Sayings.{name_type_saying}
use Rattle.messages_of_each_shape_laws.proofs.laws_l_to_w.name_type_is_as_printed.Goals as goal

pub returns-clause-bytes : goal.returns-clause-bytes
returns-clause-bytes c = λ u. same_bytes name_type_format

pub returns-clause-values : goal.returns-clause-values
returns-clause-values c = name_type_saying

pub returns-clause-names : goal.returns-clause-names
returns-clause-names c = refl
