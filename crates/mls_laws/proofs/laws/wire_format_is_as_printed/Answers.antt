use Rattle.std.proofs.Common.{refl}
use Rattle.tls_presentation.specs.Meaning.{same_bytes}
use Rattle.mls.specs.WireFormat.{wire_format_format}
use Rattle.mls_laws.proofs.Sayings.{wire_format_saying}
use Rattle.mls_laws.proofs.laws.wire_format_is_as_printed.Goals as goal

pub returns-clause-bytes : goal.returns-clause-bytes
returns-clause-bytes c = λ u. same_bytes wire_format_format

pub returns-clause-values : goal.returns-clause-values
returns-clause-values c = wire_format_saying

pub returns-clause-names : goal.returns-clause-names
returns-clause-names c = refl
