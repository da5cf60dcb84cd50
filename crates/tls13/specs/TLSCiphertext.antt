-- TLSCiphertext: what it stands for, its format and its law.
use Rattle.tls_codec.specs.OwnMessages.{Tree, number_trees, Format, fixed_bytes_format, triple_tree, triple_format, MeetsLaws, fixed_bytes_meets, triple_meets}
use Rattle.tls_codec.specs.Contents.{fixed_bytes_of}
use Rattle.tls13.specs.ContentTypeApplicationData.{content_type_application_data_plain, content_type_application_data_format, content_type_application_data_meets}
use Rattle.tls13.specs.ProtocolVersionX0303.{protocol_version_x0303_plain, protocol_version_x0303_format, protocol_version_x0303_meets}
use Rattle.tls13.specs.declared.tls_ciphertext.TLSCiphertext.{TLSCiphertext}

abbrev pub tls_ciphertext_plain : TLSCiphertext → Tree
tls_ciphertext_plain v = triple_tree (content_type_application_data_plain v.opaque_type)
    (protocol_version_x0303_plain v.legacy_record_version) (number_trees (fixed_bytes_of v.encrypted_record))

abbrev pub tls_ciphertext_format : Format
tls_ciphertext_format = triple_format content_type_application_data_format protocol_version_x0303_format (fixed_bytes_format 2)

pub tls_ciphertext_meets : MeetsLaws tls_ciphertext_format
tls_ciphertext_meets = triple_meets content_type_application_data_meets protocol_version_x0303_meets (fixed_bytes_meets 2)
