-- Certificate: what it stands for, its format and its law.
use Rattle.tls_codec.specs.OwnMessages.{Tree, trees, number_trees, Format, fixed_list_format, fixed_bytes_format, pair_tree, pair_format, MeetsLaws, fixed_list_meets, fixed_bytes_meets, pair_meets}
use Rattle.tls_codec.specs.Contents.{fixed_bytes_of, elements_of}
use Rattle.tls13.specs.CertificateEntry.{certificate_entry_plain, certificate_entry_format, certificate_entry_meets}
use Rattle.tls13.specs.declared.certificate.Certificate.{Certificate}

abbrev pub certificate_plain : Certificate → Tree
certificate_plain v = pair_tree (number_trees (fixed_bytes_of v.certificate_request_context))
    (trees certificate_entry_plain (elements_of v.certificate_list))

abbrev pub certificate_format : Format
certificate_format = pair_format (fixed_bytes_format 1) (fixed_list_format 3 certificate_entry_format)

pub certificate_meets : MeetsLaws certificate_format
certificate_meets = pair_meets (fixed_bytes_meets 1) (fixed_list_meets 3 certificate_entry_meets)
