-- TLSPlaintext: what it stands for, its format and its law.
use Rattle.tls_codec.specs.OwnMessages.{Tree, Number, number_trees, Format, number_format, fixed_bytes_format, triple_tree, triple_format, MeetsLaws, u16_meets, fixed_bytes_meets, triple_meets}
use Rattle.tls_codec.specs.Contents.{fixed_bytes_of}
use Rattle.tls13.specs.ContentType.{content_type_plain, content_type_format, content_type_meets}
use Rattle.tls13.specs.declared.tls_plaintext.TLSPlaintext.{TLSPlaintext}

abbrev pub tls_plaintext_plain : TLSPlaintext → Tree
tls_plaintext_plain v = triple_tree (content_type_plain v.kind) (Number v.legacy_record_version) (number_trees (fixed_bytes_of v.fragment))

abbrev pub tls_plaintext_format : Format
tls_plaintext_format = triple_format content_type_format (number_format 2) (fixed_bytes_format 2)

pub tls_plaintext_meets : MeetsLaws tls_plaintext_format
tls_plaintext_meets = triple_meets content_type_meets u16_meets (fixed_bytes_meets 2)
