-- ExternalInit: what it stands for, its format and its law.
use Rattle.tls_codec.specs.OwnMessages.{Tree, number_trees, Format, bytes_format, MeetsLaws, bytes_meets}
use Rattle.tls_codec.specs.Contents.{bytes_of}
use Rattle.mls_group.specs.declared.external_init.ExternalInit.{ExternalInit}

abbrev pub external_init_plain : ExternalInit → Tree
external_init_plain v = number_trees (bytes_of v.kem_output)

abbrev pub external_init_format : Format
external_init_format = bytes_format

pub external_init_meets : MeetsLaws external_init_format
external_init_meets = bytes_meets
