-- CertificateTypeData: what it stands for, its format and its law.
use Rattle.std.proofs.Common.{arith}
use Rattle.std.specs.Prelude.{ℕ}
use Rattle.tls_codec.specs.OwnMessages.{Tree, Number, Join, number_trees, Format, bytes_format, bounded_bytes_format, Variants, no_variant, variant, chosen_format, EachMeetsLaws, MeetsVariantLaws, bytes_meets, bounded_bytes_meets, no_variant_meets, variant_meets, chosen_meets}
use Rattle.tls_codec.specs.Contents.{bytes_of, fixed_bytes_of}
use Rattle.tls_codec_cases.specs.Sums.{either_variants, either_variants_meet}
use Rattle.messages_of_each_shape.specs.CertificateType.{certificate_type_selected}
use Rattle.messages_of_each_shape.specs.declared.certificate_type_data.CertificateTypeData.{CertificateTypeData}
use Rattle.messages_of_each_shape.specs.declared.certificate_type_data.CertificateTypeData.TheVariants.{X509, RawPublicKey}

-- the tag of each case
abbrev pub certificate_type_data_tag : CertificateTypeData → ℕ
certificate_type_data_tag (X509 a0) = 0
certificate_type_data_tag (RawPublicKey a0) = 2

abbrev pub certificate_type_data_plain : CertificateTypeData → Tree
certificate_type_data_plain (X509 a0) = Join (Number 0) (number_trees (fixed_bytes_of a0))
certificate_type_data_plain (RawPublicKey a0) = Join (Number 2) (number_trees (bytes_of a0))

abbrev pub certificate_type_data_variants : Variants
certificate_type_data_variants =
    either_variants (variant 0 (bounded_bytes_format 3 1 16777215) no_variant) (variant 2 bytes_format no_variant)

pub certificate_type_data_variants_meet : MeetsVariantLaws certificate_type_data_variants
certificate_type_data_variants_meet =
    either_variants_meet (variant_meets 0 (bounded_bytes_meets 3 1 16777215 (omega arith)) no_variant_meets)
    (variant_meets 2 bytes_meets no_variant_meets)

abbrev pub certificate_type_data_format_for : Tree → Format
certificate_type_data_format_for c = chosen_format (certificate_type_selected c) certificate_type_data_variants

pub certificate_type_data_meets_for : EachMeetsLaws certificate_type_data_format_for
certificate_type_data_meets_for c = chosen_meets (certificate_type_selected c) certificate_type_data_variants_meet
