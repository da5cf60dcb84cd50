-- DigitallySigned: what it stands for, its format and its law.
use Rattle.tls_codec.specs.OwnMessages.{Tree, number_trees, Format, fixed_bytes_format, pair_tree, pair_format, MeetsLaws, fixed_bytes_meets, pair_meets}
use Rattle.tls_codec.specs.Contents.{fixed_bytes_of}
use Rattle.ct.specs.SignatureAndHashAlgorithm.{signature_and_hash_algorithm_plain, signature_and_hash_algorithm_format, signature_and_hash_algorithm_meets}
use Rattle.ct.specs.declared.digitally_signed.DigitallySigned.{DigitallySigned}

abbrev pub digitally_signed_plain : DigitallySigned → Tree
digitally_signed_plain v = pair_tree (signature_and_hash_algorithm_plain v.algorithm) (number_trees (fixed_bytes_of v.signature))

abbrev pub digitally_signed_format : Format
digitally_signed_format = pair_format signature_and_hash_algorithm_format (fixed_bytes_format 2)

pub digitally_signed_meets : MeetsLaws digitally_signed_format
digitally_signed_meets = pair_meets signature_and_hash_algorithm_meets (fixed_bytes_meets 2)
