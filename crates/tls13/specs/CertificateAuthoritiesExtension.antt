-- CertificateAuthoritiesExtension: what it stands for, its format and its law.
use Rattle.std.proofs.Common.{arith}
use Rattle.tls_codec.specs.OwnMessages.{Tree, trees, number_trees, Format, bounded_list_format, bounded_bytes_format, MeetsLaws, bounded_list_meets, bounded_bytes_meets}
use Rattle.tls_codec.specs.Contents.{fixed_bytes_of, elements_of}
use Rattle.tls13.specs.declared.certificate_authorities_extension.CertificateAuthoritiesExtension.{CertificateAuthoritiesExtension}

abbrev pub certificate_authorities_extension_plain : CertificateAuthoritiesExtension → Tree
certificate_authorities_extension_plain v = trees (λ v. number_trees (fixed_bytes_of v)) (elements_of v.authorities)

abbrev pub certificate_authorities_extension_format : Format
certificate_authorities_extension_format = bounded_list_format 2 3 65535 (bounded_bytes_format 2 1 65535)

pub certificate_authorities_extension_meets : MeetsLaws certificate_authorities_extension_format
certificate_authorities_extension_meets = bounded_list_meets 2 3 65535 (omega arith) (bounded_bytes_meets 2 1 65535 (omega arith))
