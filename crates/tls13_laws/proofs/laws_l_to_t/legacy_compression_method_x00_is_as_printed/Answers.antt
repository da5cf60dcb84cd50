use Rattle.tls_presentation.specs.Meaning.{same_bytes}
use Rattle.tls13.specs.LegacyCompressionMethodX00.{legacy_compression_method_x00_format}
use Rattle.tls13_laws.proofs.Sayings.{legacy_compression_method_x00_saying}
use Rattle.tls13_laws.proofs.laws_l_to_t.legacy_compression_method_x00_is_as_printed.Goals as goal

pub returns-clause-bytes : goal.returns-clause-bytes
returns-clause-bytes c = λ u. same_bytes legacy_compression_method_x00_format

pub returns-clause-values : goal.returns-clause-values
returns-clause-values c = legacy_compression_method_x00_saying
