-- PrecertChainEntry: what it stands for, its format and its law.
use Rattle.std.proofs.Common.{arith}
use Rattle.tls_codec.specs.OwnMessages.{Tree, trees, number_trees, Format, fixed_list_format, bounded_bytes_format, pair_tree, pair_format, MeetsLaws, fixed_list_meets, bounded_bytes_meets, pair_meets}
use Rattle.tls_codec.specs.Contents.{fixed_bytes_of, elements_of}
use Rattle.ct.specs.declared.precert_chain_entry.PrecertChainEntry.{PrecertChainEntry}

abbrev pub precert_chain_entry_plain : PrecertChainEntry → Tree
precert_chain_entry_plain v = pair_tree (number_trees (fixed_bytes_of v.pre_certificate))
    (trees (λ v. number_trees (fixed_bytes_of v)) (elements_of v.precertificate_chain))

abbrev pub precert_chain_entry_format : Format
precert_chain_entry_format = pair_format (bounded_bytes_format 3 1 16777215) (fixed_list_format 3 (bounded_bytes_format 3 1 16777215))

pub precert_chain_entry_meets : MeetsLaws precert_chain_entry_format
precert_chain_entry_meets = pair_meets (bounded_bytes_meets 3 1 16777215 (omega arith))
    (fixed_list_meets 3 (bounded_bytes_meets 3 1 16777215 (omega arith)))
