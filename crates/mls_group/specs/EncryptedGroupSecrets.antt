-- EncryptedGroupSecrets: what it stands for, its format and its law.
use Rattle.tls_codec.specs.OwnMessages.{Tree, number_trees, Format, bytes_format, pair_tree, pair_format, MeetsLaws, bytes_meets, pair_meets}
use Rattle.tls_codec.specs.Contents.{bytes_of}
use Rattle.mls_group.specs.HPKECiphertext.{hpke_ciphertext_plain, hpke_ciphertext_format, hpke_ciphertext_meets}
use Rattle.mls_group.specs.declared.encrypted_group_secrets.EncryptedGroupSecrets.{EncryptedGroupSecrets}

abbrev pub encrypted_group_secrets_plain : EncryptedGroupSecrets → Tree
encrypted_group_secrets_plain v = pair_tree (number_trees (bytes_of v.new_member)) (hpke_ciphertext_plain v.encrypted_group_secrets)

abbrev pub encrypted_group_secrets_format : Format
encrypted_group_secrets_format = pair_format bytes_format hpke_ciphertext_format

pub encrypted_group_secrets_meets : MeetsLaws encrypted_group_secrets_format
encrypted_group_secrets_meets = pair_meets bytes_meets hpke_ciphertext_meets
