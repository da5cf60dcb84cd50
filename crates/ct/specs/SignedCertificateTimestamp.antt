-- SignedCertificateTimestamp: what it stands for, its format and its law.
use Rattle.tls_codec.specs.OwnMessages.{Tree, Number, number_trees, Format, number_format, fixed_bytes_format, pair_tree, triple_tree, pair_format, triple_format, MeetsLaws, u64_meets, fixed_bytes_meets, pair_meets, triple_meets}
use Rattle.tls_codec.specs.Contents.{fixed_bytes_of}
use Rattle.ct.specs.Version.{version_plain, version_format, version_meets}
use Rattle.ct.specs.LogID.{log_id_plain, log_id_format, log_id_meets}
use Rattle.ct.specs.DigitallySigned.{digitally_signed_plain, digitally_signed_format, digitally_signed_meets}
use Rattle.ct.specs.declared.signed_certificate_timestamp.SignedCertificateTimestamp.{SignedCertificateTimestamp}

abbrev pub signed_certificate_timestamp_plain : SignedCertificateTimestamp → Tree
signed_certificate_timestamp_plain v =
    pair_tree
    (triple_tree (version_plain v.sct_version) (log_id_plain v.id) (Number v.timestamp))
    (pair_tree (number_trees (fixed_bytes_of v.extensions)) (digitally_signed_plain v.signature))

abbrev pub signed_certificate_timestamp_format : Format
signed_certificate_timestamp_format =
    pair_format
    (triple_format version_format log_id_format (number_format 8))
    (pair_format (fixed_bytes_format 2) digitally_signed_format)

pub signed_certificate_timestamp_meets : MeetsLaws signed_certificate_timestamp_format
signed_certificate_timestamp_meets =
    pair_meets
    (triple_meets version_meets log_id_meets u64_meets)
    (pair_meets (fixed_bytes_meets 2) digitally_signed_meets)
