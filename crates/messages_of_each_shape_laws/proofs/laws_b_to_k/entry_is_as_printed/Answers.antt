use Rattle.tls_presentation.specs.Meaning.{same_bytes}
use Rattle.messages_of_each_shape.specs.Entry.{entry_format_for}
use Rattle.messages_of_each_shape_laws.proofs.Sayings.{entry_saying}
use Rattle.messages_of_each_shape_laws.proofs.laws_b_to_k.entry_is_as_printed.Goals as goal

pub returns-clause-bytes : goal.returns-clause-bytes
returns-clause-bytes c = λ u. same_bytes (entry_format_for u)

pub returns-clause-values : goal.returns-clause-values
returns-clause-values c = entry_saying
