-- ExternalPub: what it stands for, its format and its law.
use Rattle.tls_codec.specs.OwnMessages.{Tree, number_trees, Format, bytes_format, MeetsLaws, bytes_meets}
use Rattle.tls_codec.specs.Contents.{bytes_of}
use Rattle.mls_group.specs.declared.external_pub.ExternalPub.{ExternalPub}

abbrev pub external_pub_plain : ExternalPub → Tree
external_pub_plain v = number_trees (bytes_of v.external_pub)

abbrev pub external_pub_format : Format
external_pub_format = bytes_format

pub external_pub_meets : MeetsLaws external_pub_format
external_pub_meets = bytes_meets
