-- CertificateRequest: what it stands for, its format and its law.
use Rattle.std.proofs.Common.{arith}
use Rattle.tls_codec.specs.OwnMessages.{Tree, trees, number_trees, Format, bounded_list_format, fixed_bytes_format, pair_tree, pair_format, MeetsLaws, bounded_list_meets, fixed_bytes_meets, pair_meets}
use Rattle.tls_codec.specs.Contents.{fixed_bytes_of, elements_of}
use Rattle.tls13.specs.Extension.{extension_plain, extension_format, extension_meets}
use Rattle.tls13.specs.declared.certificate_request.CertificateRequest.{CertificateRequest}

abbrev pub certificate_request_plain : CertificateRequest → Tree
certificate_request_plain v = pair_tree (number_trees (fixed_bytes_of v.certificate_request_context))
    (trees extension_plain (elements_of v.extensions))

abbrev pub certificate_request_format : Format
certificate_request_format = pair_format (fixed_bytes_format 1) (bounded_list_format 2 2 65535 extension_format)

pub certificate_request_meets : MeetsLaws certificate_request_format
certificate_request_meets = pair_meets (fixed_bytes_meets 1) (bounded_list_meets 2 2 65535 (omega arith) extension_meets)
