use Rattle.tls_presentation.specs.Meaning.{same_bytes}
use Rattle.tls13.specs.PreSharedKeyExtension.{pre_shared_key_extension_format_for}
use Rattle.tls13_laws.proofs.Sayings.{pre_shared_key_extension_saying}
use Rattle.tls13_laws.proofs.laws_l_to_t.pre_shared_key_extension_is_as_printed.Goals as goal

pub returns-clause-bytes : goal.returns-clause-bytes
returns-clause-bytes c = λ u. same_bytes (pre_shared_key_extension_format_for u)

pub returns-clause-values : goal.returns-clause-values
returns-clause-values c = pre_shared_key_extension_saying
