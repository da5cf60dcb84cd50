use Rattle.tls_presentation.specs.Meaning.{same_bytes}
use Rattle.mls_group.specs.GroupContextExtensions.{group_context_extensions_format}
use Rattle.mls_group_laws.proofs.Sayings.{group_context_extensions_saying}
use Rattle.mls_group_laws.proofs.laws.group_context_extensions_is_as_printed.Goals as goal

pub returns-clause-bytes : goal.returns-clause-bytes
returns-clause-bytes c = λ u. same_bytes group_context_extensions_format

pub returns-clause-values : goal.returns-clause-values
returns-clause-values c = group_context_extensions_saying
