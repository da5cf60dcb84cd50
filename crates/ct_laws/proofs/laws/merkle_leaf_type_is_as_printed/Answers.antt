use Rattle.tls_presentation.specs.Meaning.{same_bytes}
use Rattle.ct.specs.MerkleLeafType.{merkle_leaf_type_format}
use Rattle.ct_laws.proofs.Sayings.{merkle_leaf_type_saying, merkle_leaf_type_naming}
use Rattle.ct_laws.proofs.laws.merkle_leaf_type_is_as_printed.Goals as goal

pub returns-clause-bytes : goal.returns-clause-bytes
returns-clause-bytes c = λ u. same_bytes merkle_leaf_type_format

pub returns-clause-values : goal.returns-clause-values
returns-clause-values c = merkle_leaf_type_saying

pub returns-clause-names : goal.returns-clause-names
returns-clause-names c = merkle_leaf_type_naming
