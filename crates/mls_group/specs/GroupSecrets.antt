-- GroupSecrets: what it stands for, its format and its law.
use Rattle.tls_codec.specs.OwnMessages.{Tree, trees, number_trees, option_plain, Format, option_format, list_format, bytes_format, triple_tree, triple_format, MeetsLaws, option_meets, list_meets, bytes_meets, triple_meets}
use Rattle.tls_codec.specs.Contents.{bytes_of}
use Rattle.mls_group.specs.PathSecret.{path_secret_plain, path_secret_format, path_secret_meets}
use Rattle.mls_group.specs.PreSharedKeyID.{pre_shared_key_id_plain, pre_shared_key_id_format, pre_shared_key_id_meets}
use Rattle.mls_group.specs.declared.group_secrets.GroupSecrets.{GroupSecrets}

abbrev pub group_secrets_plain : GroupSecrets → Tree
group_secrets_plain v = triple_tree (number_trees (bytes_of v.joiner_secret)) (option_plain path_secret_plain v.path_secret)
    (trees pre_shared_key_id_plain v.psks.items)

abbrev pub group_secrets_format : Format
group_secrets_format = triple_format bytes_format (option_format path_secret_format) (list_format pre_shared_key_id_format)

pub group_secrets_meets : MeetsLaws group_secrets_format
group_secrets_meets = triple_meets bytes_meets (option_meets path_secret_meets) (list_meets pre_shared_key_id_meets)
