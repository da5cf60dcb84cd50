-- What an extension of a hello stands for, its type and its data, and its format.
use Rattle.std.proofs.Common.{arith}
use Rattle.tls_codec.specs.OwnMessages.{Tree, Number, Join, number_trees, Format, number_format, fixed_list_format, fixed_bytes_format, Variants, no_variant, variant, tagged_format, chosen_format, MeetsLaws, EachMeetsLaws, MeetsVariantLaws, u16_meets, fixed_list_meets, fixed_bytes_meets, no_variant_meets, variant_meets, tagged_meets, chosen_meets}
use Rattle.tls_codec.specs.Contents.{elements_of, fixed_bytes_of}
use Rattle.tls_codec_cases.specs.Sums.{either_variants, either_variants_meet}
use Rattle.tls_codec_cases.specs.Others.{others, others_meet}
use Rattle.tls_codec_cases.specs.Chosen.{number_of}
use Rattle.tls_codec_cases.specs.Enclosed.{fixed_enclosed_format, fixed_enclosed_meets}
use Rattle.guide.specs.declared.hello_extension.HelloExtension.{HelloExtension}
use Rattle.guide.specs.declared.hello_extension.HelloExtension.TheVariants.{SupportedVersions, SelectedGroup, Unknown}

abbrev pub hello_extension_plain : HelloExtension → Tree
hello_extension_plain (SupportedVersions versions) = Join (Number 43) (number_trees (elements_of versions))
hello_extension_plain (SelectedGroup group) = Join (Number 51) (Number group)
hello_extension_plain (Unknown other) = Join (Number other.tag) (number_trees (fixed_bytes_of other.parts))

-- each in its length; data of any other type are bytes
abbrev pub hello_extension_variants : Variants
hello_extension_variants =
    either_variants
    (either_variants (variant 43 (fixed_enclosed_format 2 (fixed_list_format 1 (number_format 2))) no_variant)
    (variant 51 (fixed_enclosed_format 2 (number_format 2)) no_variant))
    (others 0xffff (fixed_bytes_format 2))

pub hello_extension_variants_meet : MeetsVariantLaws hello_extension_variants
hello_extension_variants_meet =
    either_variants_meet
    (either_variants_meet (variant_meets 43 (fixed_enclosed_meets 2 (omega arith) (fixed_list_meets 1 u16_meets)) no_variant_meets)
    (variant_meets 51 (fixed_enclosed_meets 2 (omega arith) u16_meets) no_variant_meets))
    (others_meet 0xffff (fixed_bytes_meets 2))

abbrev pub hello_extension_format : Format
hello_extension_format = tagged_format 2 hello_extension_variants

pub hello_extension_meets : MeetsLaws hello_extension_format
hello_extension_meets = tagged_meets 2 (omega arith) hello_extension_variants_meet

-- ---- the same if its type was read before

abbrev pub hello_extension_format_for : Tree → Format
hello_extension_format_for type_read = chosen_format (number_of type_read) hello_extension_variants

pub hello_extension_meets_for : EachMeetsLaws hello_extension_format_for
hello_extension_meets_for type_read = chosen_meets (number_of type_read) hello_extension_variants_meet
