use Rattle.tls_presentation.specs.Meaning.{same_bytes}
use Rattle.tls13.specs.EmptyType.{empty_type_format}
use Rattle.tls13_laws.proofs.Sayings.{empty_type_saying}
use Rattle.tls13_laws.proofs.laws_a_to_k.empty_type_is_as_printed.Goals as goal

pub returns-clause-bytes : goal.returns-clause-bytes
returns-clause-bytes c = λ u. same_bytes empty_type_format

pub returns-clause-values : goal.returns-clause-values
returns-clause-values c = empty_type_saying
