-- OIDFilter: what it stands for, its format and its law.
use Rattle.std.proofs.Common.{arith}
use Rattle.tls_codec.specs.OwnMessages.{Tree, number_trees, Format, fixed_bytes_format, bounded_bytes_format, pair_tree, pair_format, MeetsLaws, fixed_bytes_meets, bounded_bytes_meets, pair_meets}
use Rattle.tls_codec.specs.Contents.{fixed_bytes_of}
use Rattle.tls13.specs.declared.oid_filter.OIDFilter.{OIDFilter}

abbrev pub oid_filter_plain : OIDFilter → Tree
oid_filter_plain v = pair_tree (number_trees (fixed_bytes_of v.certificate_extension_oid))
    (number_trees (fixed_bytes_of v.certificate_extension_values))

abbrev pub oid_filter_format : Format
oid_filter_format = pair_format (bounded_bytes_format 1 1 255) (fixed_bytes_format 2)

pub oid_filter_meets : MeetsLaws oid_filter_format
oid_filter_meets = pair_meets (bounded_bytes_meets 1 1 255 (omega arith)) (fixed_bytes_meets 2)
