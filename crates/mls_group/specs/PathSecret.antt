-- PathSecret: what it stands for, its format and its law.
use Rattle.tls_codec.specs.OwnMessages.{Tree, number_trees, Format, bytes_format, MeetsLaws, bytes_meets}
use Rattle.tls_codec.specs.Contents.{bytes_of}
use Rattle.mls_group.specs.declared.path_secret.PathSecret.{PathSecret}

abbrev pub path_secret_plain : PathSecret → Tree
path_secret_plain v = number_trees (bytes_of v.path_secret)

abbrev pub path_secret_format : Format
path_secret_format = bytes_format

pub path_secret_meets : MeetsLaws path_secret_format
path_secret_meets = bytes_meets
