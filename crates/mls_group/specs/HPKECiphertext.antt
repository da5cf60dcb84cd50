-- HPKECiphertext: what it stands for, its format and its law.
use Rattle.tls_codec.specs.OwnMessages.{Tree, number_trees, Format, bytes_format, pair_tree, pair_format, MeetsLaws, bytes_meets, pair_meets}
use Rattle.tls_codec.specs.Contents.{bytes_of}
use Rattle.mls_group.specs.declared.hpke_ciphertext.HPKECiphertext.{HPKECiphertext}

abbrev pub hpke_ciphertext_plain : HPKECiphertext → Tree
hpke_ciphertext_plain v = pair_tree (number_trees (bytes_of v.kem_output)) (number_trees (bytes_of v.ciphertext))

abbrev pub hpke_ciphertext_format : Format
hpke_ciphertext_format = pair_format bytes_format bytes_format

pub hpke_ciphertext_meets : MeetsLaws hpke_ciphertext_format
hpke_ciphertext_meets = pair_meets bytes_meets bytes_meets
