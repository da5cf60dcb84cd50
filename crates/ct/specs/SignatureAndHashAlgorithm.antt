-- SignatureAndHashAlgorithm: what it stands for, its format and its law.
use Rattle.tls_codec.specs.OwnMessages.{Tree, Format, pair_tree, pair_format, MeetsLaws, pair_meets}
use Rattle.ct.specs.HashAlgorithm.{hash_algorithm_plain, hash_algorithm_format, hash_algorithm_meets}
use Rattle.ct.specs.SignatureAlgorithm.{signature_algorithm_plain, signature_algorithm_format, signature_algorithm_meets}
use Rattle.ct.specs.declared.signature_and_hash_algorithm.SignatureAndHashAlgorithm.{SignatureAndHashAlgorithm}

abbrev pub signature_and_hash_algorithm_plain : SignatureAndHashAlgorithm → Tree
signature_and_hash_algorithm_plain v = pair_tree (hash_algorithm_plain v.hash) (signature_algorithm_plain v.signature)

abbrev pub signature_and_hash_algorithm_format : Format
signature_and_hash_algorithm_format = pair_format hash_algorithm_format signature_algorithm_format

pub signature_and_hash_algorithm_meets : MeetsLaws signature_and_hash_algorithm_format
signature_and_hash_algorithm_meets = pair_meets hash_algorithm_meets signature_algorithm_meets
