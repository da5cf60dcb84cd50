-- X509ChainEntry: what it stands for, its format and its law.
use Rattle.std.proofs.Common.{arith}
use Rattle.tls_codec.specs.OwnMessages.{Tree, trees, number_trees, Format, fixed_list_format, bounded_bytes_format, pair_tree, pair_format, MeetsLaws, fixed_list_meets, bounded_bytes_meets, pair_meets}
use Rattle.tls_codec.specs.Contents.{fixed_bytes_of, elements_of}
use Rattle.ct.specs.declared.x509_chain_entry.X509ChainEntry.{X509ChainEntry}

abbrev pub x509_chain_entry_plain : X509ChainEntry → Tree
x509_chain_entry_plain v = pair_tree (number_trees (fixed_bytes_of v.leaf_certificate))
    (trees (λ v. number_trees (fixed_bytes_of v)) (elements_of v.certificate_chain))

abbrev pub x509_chain_entry_format : Format
x509_chain_entry_format = pair_format (bounded_bytes_format 3 1 16777215) (fixed_list_format 3 (bounded_bytes_format 3 1 16777215))

pub x509_chain_entry_meets : MeetsLaws x509_chain_entry_format
x509_chain_entry_meets = pair_meets (bounded_bytes_meets 3 1 16777215 (omega arith))
    (fixed_list_meets 3 (bounded_bytes_meets 3 1 16777215 (omega arith)))
