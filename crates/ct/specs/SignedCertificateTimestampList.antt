-- SignedCertificateTimestampList: what it stands for, its format and its law.
use Rattle.std.proofs.Common.{arith}
use Rattle.tls_codec.specs.OwnMessages.{Tree, trees, number_trees, Format, bounded_list_format, bounded_bytes_format, MeetsLaws, bounded_list_meets, bounded_bytes_meets}
use Rattle.tls_codec.specs.Contents.{fixed_bytes_of, elements_of}
use Rattle.ct.specs.declared.signed_certificate_timestamp_list.SignedCertificateTimestampList.{SignedCertificateTimestampList}

abbrev pub signed_certificate_timestamp_list_plain : SignedCertificateTimestampList → Tree
signed_certificate_timestamp_list_plain v = trees (λ v. number_trees (fixed_bytes_of v)) (elements_of v.sct_list)

abbrev pub signed_certificate_timestamp_list_format : Format
signed_certificate_timestamp_list_format = bounded_list_format 2 1 65535 (bounded_bytes_format 2 1 65535)

pub signed_certificate_timestamp_list_meets : MeetsLaws signed_certificate_timestamp_list_format
signed_certificate_timestamp_list_meets = bounded_list_meets 2 1 65535 (omega arith) (bounded_bytes_meets 2 1 65535 (omega arith))
