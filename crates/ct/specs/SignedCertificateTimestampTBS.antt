-- SignedCertificateTimestampTBS: what it stands for, its format and its law.
use Rattle.tls_codec.specs.OwnMessages.{Tree, Number, number_trees, Format, number_format, fixed_bytes_format, pair_tree, triple_tree, pair_format, triple_format, MeetsLaws, u64_meets, fixed_bytes_meets, pair_meets, triple_meets}
use Rattle.tls_codec.specs.Contents.{fixed_bytes_of}
use Rattle.ct.specs.Version.{version_plain, version_format, version_meets}
use Rattle.ct.specs.SignatureTypeCertificateTimestamp.{signature_type_certificate_timestamp_plain, signature_type_certificate_timestamp_format, signature_type_certificate_timestamp_meets}
use Rattle.ct.specs.LogEntryTypeData.{log_entry_type_data_plain, log_entry_type_data_format, log_entry_type_data_meets}
use Rattle.ct.specs.declared.signed_certificate_timestamp_tbs.SignedCertificateTimestampTBS.{SignedCertificateTimestampTBS}

abbrev pub signed_certificate_timestamp_tbs_plain : SignedCertificateTimestampTBS → Tree
signed_certificate_timestamp_tbs_plain v =
    pair_tree
    (triple_tree (version_plain v.sct_version) (signature_type_certificate_timestamp_plain v.signature_type) (Number v.timestamp))
    (pair_tree (log_entry_type_data_plain v.signed_entry) (number_trees (fixed_bytes_of v.extensions)))

abbrev pub signed_certificate_timestamp_tbs_format : Format
signed_certificate_timestamp_tbs_format =
    pair_format
    (triple_format version_format signature_type_certificate_timestamp_format (number_format 8))
    (pair_format log_entry_type_data_format (fixed_bytes_format 2))

pub signed_certificate_timestamp_tbs_meets : MeetsLaws signed_certificate_timestamp_tbs_format
signed_certificate_timestamp_tbs_meets =
    pair_meets
    (triple_meets version_meets signature_type_certificate_timestamp_meets u64_meets)
    (pair_meets log_entry_type_data_meets (fixed_bytes_meets 2))
