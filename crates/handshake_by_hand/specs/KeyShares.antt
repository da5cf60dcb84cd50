-- What the shares of a message stand for, and which bytes spell them, by the message's type.
use Rattle.tls_codec.specs.OwnMessages.{Tree, Number, Join, trees, number_trees, pair_tree, Format, number_format, pair_format, fixed_list_format, bounded_bytes_format, chosen_format, Variants, no_variant, variant, MeetsLaws, EachMeetsLaws, MeetsVariantLaws, u16_meets, pair_meets, fixed_list_meets, bounded_bytes_meets, chosen_meets, no_variant_meets, variant_meets}
use Rattle.std.proofs.Common.{arith}
use Rattle.tls_codec.specs.Contents.{elements_of, fixed_bytes_of}
use Rattle.tls_codec_cases.specs.Sums.{either_variants, either_variants_meet}
use Rattle.tls_codec_cases.specs.Chosen.{number_of}
use Rattle.handshake_by_hand.specs.declared.key_share_entry.KeyShareEntry.{KeyShareEntry}
use Rattle.handshake_by_hand.specs.declared.key_share.KeyShare.{KeyShare}
use Rattle.handshake_by_hand.specs.declared.key_share.KeyShare.TheVariants.{ClientHello, ServerHello, HelloRetryRequest}

-- ---- an entry

abbrev pub key_share_entry_plain : KeyShareEntry → Tree
key_share_entry_plain v = pair_tree (Number v.group) (number_trees (fixed_bytes_of v.key_exchange))

abbrev pub key_share_entry_format : Format
key_share_entry_format = pair_format (number_format 2) (bounded_bytes_format 2 1 0xffff)

pub key_share_entry_meets : MeetsLaws key_share_entry_format
key_share_entry_meets = pair_meets u16_meets (bounded_bytes_meets 2 1 0xffff (omega arith))

-- ---- the shares of a message

abbrev pub key_share_plain : KeyShare → Tree
key_share_plain (ClientHello client_shares) = Join (Number 1) (trees key_share_entry_plain (elements_of client_shares))
key_share_plain (ServerHello server_share) = Join (Number 2) (key_share_entry_plain server_share)
key_share_plain (HelloRetryRequest selected_group) = Join (Number 6) (Number selected_group)

abbrev pub key_share_variants : Variants
key_share_variants =
    either_variants (variant 1 (fixed_list_format 2 key_share_entry_format) no_variant)
    (either_variants (variant 2 key_share_entry_format no_variant) (variant 6 (number_format 2) no_variant))

pub key_share_variants_meet : MeetsVariantLaws key_share_variants
key_share_variants_meet =
    either_variants_meet (variant_meets 1 (fixed_list_meets 2 key_share_entry_meets) no_variant_meets)
    (either_variants_meet (variant_meets 2 key_share_entry_meets no_variant_meets) (variant_meets 6 u16_meets no_variant_meets))

abbrev pub key_share_format_for : Tree → Format
key_share_format_for msg_type = chosen_format (number_of msg_type) key_share_variants

pub key_share_meets_for : EachMeetsLaws key_share_format_for
key_share_meets_for msg_type = chosen_meets (number_of msg_type) key_share_variants_meet
