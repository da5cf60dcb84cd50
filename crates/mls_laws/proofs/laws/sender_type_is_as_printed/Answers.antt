use Rattle.tls_presentation.specs.Meaning.{same_bytes}
use Rattle.mls.specs.SenderType.{sender_type_format}
use Rattle.mls_laws.proofs.Sayings.{sender_type_saying, sender_type_naming}
use Rattle.mls_laws.proofs.laws.sender_type_is_as_printed.Goals as goal

pub returns-clause-bytes : goal.returns-clause-bytes
returns-clause-bytes c = λ u. same_bytes sender_type_format

pub returns-clause-values : goal.returns-clause-values
returns-clause-values c = sender_type_saying

pub returns-clause-names : goal.returns-clause-names
returns-clause-names c = sender_type_naming
