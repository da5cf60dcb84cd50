use Rattle.std.proofs.Common.{refl}
use Rattle.tls_presentation.specs.Meaning.{same_bytes}
use Rattle.mls_tree.specs.CipherSuite.{cipher_suite_format}
use Rattle.mls_tree_laws.proofs.Sayings.{cipher_suite_saying}
use Rattle.mls_tree_laws.proofs.laws.cipher_suite_is_as_printed.Goals as goal

pub returns-clause-bytes : goal.returns-clause-bytes
returns-clause-bytes c = λ u. same_bytes cipher_suite_format

pub returns-clause-values : goal.returns-clause-values
returns-clause-values c = cipher_suite_saying

pub returns-clause-names : goal.returns-clause-names
returns-clause-names c = refl
