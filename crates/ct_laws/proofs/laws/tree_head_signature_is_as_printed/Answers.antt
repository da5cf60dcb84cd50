use Rattle.tls_presentation.specs.Meaning.{same_bytes}
use Rattle.ct.specs.TreeHeadSignature.{tree_head_signature_format}
use Rattle.ct_laws.proofs.Sayings.{tree_head_signature_saying}
use Rattle.ct_laws.proofs.laws.tree_head_signature_is_as_printed.Goals as goal

pub returns-clause-bytes : goal.returns-clause-bytes
returns-clause-bytes c = λ u. same_bytes tree_head_signature_format

pub returns-clause-values : goal.returns-clause-values
returns-clause-values c = tree_head_signature_saying
