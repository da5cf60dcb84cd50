use Rattle.std.proofs.Common.{refl}
use Rattle.tls_presentation.specs.Meaning.{same_bytes}
use Rattle.ct.specs.HashAlgorithm.{hash_algorithm_format}
use Rattle.ct_laws.proofs.Sayings.{hash_algorithm_saying}
use Rattle.ct_laws.proofs.laws.hash_algorithm_is_as_printed.Goals as goal

pub returns-clause-bytes : goal.returns-clause-bytes
returns-clause-bytes c = λ u. same_bytes hash_algorithm_format

pub returns-clause-values : goal.returns-clause-values
returns-clause-values c = hash_algorithm_saying

pub returns-clause-names : goal.returns-clause-names
returns-clause-names c = refl
