-- PreCert: what it stands for, its format and its law.
use Rattle.std.proofs.Common.{arith}
use Rattle.tls_codec.specs.OwnMessages.{Tree, number_trees, Format, array_format, bounded_bytes_format, pair_tree, pair_format, MeetsLaws, array_meets, bounded_bytes_meets, pair_meets}
use Rattle.tls_codec.specs.Contents.{fixed_bytes_of}
use Rattle.ct.specs.declared.pre_cert.PreCert.{PreCert}

abbrev pub pre_cert_plain : PreCert → Tree
pre_cert_plain v = pair_tree (number_trees v.issuer_key_hash) (number_trees (fixed_bytes_of v.tbs_certificate))

abbrev pub pre_cert_format : Format
pre_cert_format = pair_format (array_format 32) (bounded_bytes_format 3 1 16777215)

pub pre_cert_meets : MeetsLaws pre_cert_format
pre_cert_meets = pair_meets (array_meets 32 (omega arith)) (bounded_bytes_meets 3 1 16777215 (omega arith))
