-- Welcome: what it stands for, its format and its law.
use Rattle.tls_codec.specs.OwnMessages.{Tree, trees, number_trees, Format, list_format, bytes_format, triple_tree, triple_format, MeetsLaws, list_meets, bytes_meets, triple_meets}
use Rattle.tls_codec.specs.Contents.{bytes_of}
use Rattle.mls_tree.specs.CipherSuite.{cipher_suite_plain, cipher_suite_format, cipher_suite_meets}
use Rattle.mls_group.specs.EncryptedGroupSecrets.{encrypted_group_secrets_plain, encrypted_group_secrets_format, encrypted_group_secrets_meets}
use Rattle.mls_group.specs.declared.welcome.Welcome.{Welcome}

abbrev pub welcome_plain : Welcome → Tree
welcome_plain v = triple_tree (cipher_suite_plain v.cipher_suite) (trees encrypted_group_secrets_plain v.secrets.items)
    (number_trees (bytes_of v.encrypted_group_info))

abbrev pub welcome_format : Format
welcome_format = triple_format cipher_suite_format (list_format encrypted_group_secrets_format) bytes_format

pub welcome_meets : MeetsLaws welcome_format
welcome_meets = triple_meets cipher_suite_meets (list_meets encrypted_group_secrets_meets) bytes_meets
