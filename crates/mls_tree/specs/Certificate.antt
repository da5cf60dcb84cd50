-- Certificate: what it stands for, its format and its law.
use Rattle.tls_codec.specs.OwnMessages.{Tree, number_trees, Format, bytes_format, MeetsLaws, bytes_meets}
use Rattle.tls_codec.specs.Contents.{bytes_of}
use Rattle.mls_tree.specs.declared.certificate.Certificate.{Certificate}

abbrev pub certificate_plain : Certificate → Tree
certificate_plain v = number_trees (bytes_of v.cert_data)

abbrev pub certificate_format : Format
certificate_format = bytes_format

pub certificate_meets : MeetsLaws certificate_format
certificate_meets = bytes_meets
