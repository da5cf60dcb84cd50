-- RefHashInput: what it stands for, its format and its law.
use Rattle.tls_codec.specs.OwnMessages.{Tree, number_trees, Format, bytes_format, pair_tree, pair_format, MeetsLaws, bytes_meets, pair_meets}
use Rattle.tls_codec.specs.Contents.{bytes_of}
use Rattle.mls_group.specs.declared.ref_hash_input.RefHashInput.{RefHashInput}

abbrev pub ref_hash_input_plain : RefHashInput → Tree
ref_hash_input_plain v = pair_tree (number_trees (bytes_of v.label.now)) (number_trees (bytes_of v.value.now))

abbrev pub ref_hash_input_format : Format
ref_hash_input_format = pair_format bytes_format bytes_format

pub ref_hash_input_meets : MeetsLaws ref_hash_input_format
ref_hash_input_meets = pair_meets bytes_meets bytes_meets
