use Rattle.tls_presentation.specs.Meaning.{same_bytes}
use Rattle.messages_of_each_shape.specs.BodyKind.{body_kind_format}
use Rattle.messages_of_each_shape_laws.proofs.Sayings.{body_kind_saying, body_kind_naming}
use Rattle.messages_of_each_shape_laws.proofs.laws_b_to_k.body_kind_is_as_printed.Goals as goal

pub returns-clause-bytes : goal.returns-clause-bytes
returns-clause-bytes c = λ u. same_bytes body_kind_format

pub returns-clause-values : goal.returns-clause-values
returns-clause-values c = body_kind_saying

pub returns-clause-names : goal.returns-clause-names
returns-clause-names c = body_kind_naming
