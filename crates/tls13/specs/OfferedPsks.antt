-- OfferedPsks: what it stands for, its format and its law.
use Rattle.std.proofs.Common.{arith}
use Rattle.tls_codec.specs.OwnMessages.{Tree, trees, number_trees, Format, bounded_list_format, bounded_bytes_format, pair_tree, pair_format, MeetsLaws, bounded_list_meets, bounded_bytes_meets, pair_meets}
use Rattle.tls_codec.specs.Contents.{fixed_bytes_of, elements_of}
use Rattle.tls13.specs.PskIdentity.{psk_identity_plain, psk_identity_format, psk_identity_meets}
use Rattle.tls13.specs.declared.offered_psks.OfferedPsks.{OfferedPsks}

abbrev pub offered_psks_plain : OfferedPsks → Tree
offered_psks_plain v = pair_tree (trees psk_identity_plain (elements_of v.identities))
    (trees (λ v. number_trees (fixed_bytes_of v)) (elements_of v.binders))

abbrev pub offered_psks_format : Format
offered_psks_format = pair_format (bounded_list_format 2 7 65535 psk_identity_format)
    (bounded_list_format 2 33 65535 (bounded_bytes_format 1 32 255))

pub offered_psks_meets : MeetsLaws offered_psks_format
offered_psks_meets = pair_meets (bounded_list_meets 2 7 65535 (omega arith) psk_identity_meets)
    (bounded_list_meets 2 33 65535 (omega arith) (bounded_bytes_meets 1 32 255 (omega arith)))
