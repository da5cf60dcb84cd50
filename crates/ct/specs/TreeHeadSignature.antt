-- TreeHeadSignature: what it stands for, its format and its law.
use Rattle.std.proofs.Common.{arith}
use Rattle.tls_codec.specs.OwnMessages.{Tree, Number, number_trees, Format, number_format, array_format, pair_tree, triple_tree, pair_format, triple_format, MeetsLaws, u64_meets, array_meets, pair_meets, triple_meets}
use Rattle.ct.specs.Version.{version_plain, version_format, version_meets}
use Rattle.ct.specs.SignatureTypeTreeHash.{signature_type_tree_hash_plain, signature_type_tree_hash_format, signature_type_tree_hash_meets}
use Rattle.ct.specs.declared.tree_head_signature.TreeHeadSignature.{TreeHeadSignature}

abbrev pub tree_head_signature_plain : TreeHeadSignature → Tree
tree_head_signature_plain v =
    pair_tree
    (triple_tree (version_plain v.version) (signature_type_tree_hash_plain v.signature_type) (Number v.timestamp))
    (pair_tree (Number v.tree_size) (number_trees v.sha256_root_hash))

abbrev pub tree_head_signature_format : Format
tree_head_signature_format =
    pair_format
    (triple_format version_format signature_type_tree_hash_format (number_format 8))
    (pair_format (number_format 8) (array_format 32))

pub tree_head_signature_meets : MeetsLaws tree_head_signature_format
tree_head_signature_meets =
    pair_meets
    (triple_meets version_meets signature_type_tree_hash_meets u64_meets)
    (pair_meets u64_meets (array_meets 32 (omega arith)))
