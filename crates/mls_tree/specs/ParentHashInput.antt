-- ParentHashInput: what it stands for, its format and its law.
use Rattle.tls_codec.specs.OwnMessages.{Tree, number_trees, Format, bytes_format, triple_tree, triple_format, MeetsLaws, bytes_meets, triple_meets}
use Rattle.tls_codec.specs.Contents.{bytes_of}
use Rattle.mls_tree.specs.declared.parent_hash_input.ParentHashInput.{ParentHashInput}

abbrev pub parent_hash_input_plain : ParentHashInput → Tree
parent_hash_input_plain v = triple_tree (number_trees (bytes_of v.encryption_key.now)) (number_trees (bytes_of v.parent_hash.now))
    (number_trees (bytes_of v.original_sibling_tree_hash.now))

abbrev pub parent_hash_input_format : Format
parent_hash_input_format = triple_format bytes_format bytes_format bytes_format

pub parent_hash_input_meets : MeetsLaws parent_hash_input_format
parent_hash_input_meets = triple_meets bytes_meets bytes_meets bytes_meets
