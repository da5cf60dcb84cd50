use Rattle.tls_presentation.specs.Meaning.{same_bytes}
use Rattle.mls_group.specs.RefHashInput.{ref_hash_input_format}
use Rattle.mls_group_laws.proofs.Sayings.{ref_hash_input_saying}
use Rattle.mls_group_laws.proofs.laws.ref_hash_input_is_as_printed.Goals as goal

pub returns-clause-bytes : goal.returns-clause-bytes
returns-clause-bytes c = λ u. same_bytes ref_hash_input_format

pub returns-clause-values : goal.returns-clause-values
returns-clause-values c = ref_hash_input_saying
