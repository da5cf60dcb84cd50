-- PSKOrigin: what it stands for, its format and its law.
use Rattle.std.proofs.Common.{arith}
use Rattle.std.specs.Prelude.{ℕ}
use Rattle.tls_codec.specs.OwnMessages.{Tree, Number, Empty, Join, number_trees, Format, number_format, nothing_format, fields_format, bytes_format, Variants, no_variant, variant, tagged_format, pair_tree, pair_format, MeetsLaws, MeetsVariantLaws, u64_meets, nothing_meets, fields_meets, bytes_meets, no_variant_meets, variant_meets, tagged_meets, pair_meets}
use Rattle.tls_codec.specs.Contents.{bytes_of}
use Rattle.mls_group.specs.ResumptionPSKUsage.{resumption_psk_usage_plain, resumption_psk_usage_format, resumption_psk_usage_meets}
use Rattle.mls_group.specs.declared.psk_origin.PSKOrigin.{PSKOrigin}
use Rattle.mls_group.specs.declared.psk_origin.PSKOrigin.TheVariants.{External, Resumption}

-- the tag of each case
abbrev pub psk_origin_tag : PSKOrigin → ℕ
psk_origin_tag (External a0) = 1
psk_origin_tag (Resumption a0 a1 a2) = 2

abbrev pub psk_origin_plain : PSKOrigin → Tree
psk_origin_plain (External a0) = Join (Number 1) (Join (number_trees (bytes_of a0)) Empty)
psk_origin_plain (Resumption a0 a1 a2) = Join (Number 2) (pair_tree (pair_tree (resumption_psk_usage_plain a0) (number_trees (bytes_of a1)))
    (Number a2))

abbrev pub psk_origin_variants : Variants
psk_origin_variants =
    variant 1 (fields_format bytes_format nothing_format)
    (variant 2 (pair_format (pair_format resumption_psk_usage_format bytes_format) (number_format 8))
    no_variant)

pub psk_origin_variants_meet : MeetsVariantLaws psk_origin_variants
psk_origin_variants_meet =
    variant_meets 1 (fields_meets bytes_meets nothing_meets)
    (variant_meets 2 (pair_meets (pair_meets resumption_psk_usage_meets bytes_meets) u64_meets)
    no_variant_meets)

abbrev pub psk_origin_format : Format
psk_origin_format = tagged_format 1 psk_origin_variants

pub psk_origin_meets : MeetsLaws psk_origin_format
psk_origin_meets = tagged_meets 1 (omega arith) psk_origin_variants_meet
