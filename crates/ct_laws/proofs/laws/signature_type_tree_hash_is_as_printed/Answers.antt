use Rattle.tls_presentation.specs.Meaning.{same_bytes}
use Rattle.ct.specs.SignatureTypeTreeHash.{signature_type_tree_hash_format}
use Rattle.ct_laws.proofs.Sayings.{signature_type_tree_hash_saying}
use Rattle.ct_laws.proofs.laws.signature_type_tree_hash_is_as_printed.Goals as goal

pub returns-clause-bytes : goal.returns-clause-bytes
returns-clause-bytes c = λ u. same_bytes signature_type_tree_hash_format

pub returns-clause-values : goal.returns-clause-values
returns-clause-values c = signature_type_tree_hash_saying
