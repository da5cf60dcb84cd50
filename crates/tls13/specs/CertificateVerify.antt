-- CertificateVerify: what it stands for, its format and its law.
use Rattle.tls_codec.specs.OwnMessages.{Tree, number_trees, Format, fixed_bytes_format, pair_tree, pair_format, MeetsLaws, fixed_bytes_meets, pair_meets}
use Rattle.tls_codec.specs.Contents.{fixed_bytes_of}
use Rattle.tls13.specs.SignatureScheme.{signature_scheme_plain, signature_scheme_format, signature_scheme_meets}
use Rattle.tls13.specs.declared.certificate_verify.CertificateVerify.{CertificateVerify}

abbrev pub certificate_verify_plain : CertificateVerify → Tree
certificate_verify_plain v = pair_tree (signature_scheme_plain v.algorithm) (number_trees (fixed_bytes_of v.signature))

abbrev pub certificate_verify_format : Format
certificate_verify_format = pair_format signature_scheme_format (fixed_bytes_format 2)

pub certificate_verify_meets : MeetsLaws certificate_verify_format
certificate_verify_meets = pair_meets signature_scheme_meets (fixed_bytes_meets 2)
