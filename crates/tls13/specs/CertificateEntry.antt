-- CertificateEntry: what it stands for, its format and its law.
use Rattle.std.proofs.Common.{arith}
use Rattle.tls_codec.specs.OwnMessages.{Tree, trees, number_trees, Format, fixed_list_format, bounded_bytes_format, pair_tree, pair_format, MeetsLaws, fixed_list_meets, bounded_bytes_meets, pair_meets}
use Rattle.tls_codec.specs.Contents.{fixed_bytes_of, elements_of}
use Rattle.tls13.specs.Extension.{extension_plain, extension_format, extension_meets}
use Rattle.tls13.specs.declared.certificate_entry.CertificateEntry.{CertificateEntry}

abbrev pub certificate_entry_plain : CertificateEntry → Tree
certificate_entry_plain v = pair_tree (number_trees (fixed_bytes_of v.cert_data)) (trees extension_plain (elements_of v.extensions))

abbrev pub certificate_entry_format : Format
certificate_entry_format = pair_format (bounded_bytes_format 3 1 16777215) (fixed_list_format 2 extension_format)

pub certificate_entry_meets : MeetsLaws certificate_entry_format
certificate_entry_meets = pair_meets (bounded_bytes_meets 3 1 16777215 (omega arith)) (fixed_list_meets 2 extension_meets)
