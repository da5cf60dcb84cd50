-- LogEntryTypeData: what it stands for, its format and its law.
use Rattle.std.proofs.Common.{arith}
use Rattle.std.specs.Prelude.{ℕ}
use Rattle.tls_codec.specs.OwnMessages.{Tree, Number, Empty, Join, number_trees, Format, nothing_format, fields_format, bounded_bytes_format, Variants, no_variant, variant, tagged_format, MeetsLaws, MeetsVariantLaws, nothing_meets, fields_meets, bounded_bytes_meets, no_variant_meets, variant_meets, tagged_meets}
use Rattle.tls_codec.specs.Contents.{fixed_bytes_of}
use Rattle.ct.specs.PreCert.{pre_cert_plain, pre_cert_format, pre_cert_meets}
use Rattle.ct.specs.declared.log_entry_type_data.LogEntryTypeData.{LogEntryTypeData}
use Rattle.ct.specs.declared.log_entry_type_data.LogEntryTypeData.TheVariants.{X509Entry, PrecertEntry}

-- the tag of each case
abbrev pub log_entry_type_data_tag : LogEntryTypeData → ℕ
log_entry_type_data_tag (X509Entry a0) = 0
log_entry_type_data_tag (PrecertEntry a0) = 1

abbrev pub log_entry_type_data_plain : LogEntryTypeData → Tree
log_entry_type_data_plain (X509Entry a0) = Join (Number 0) (Join (number_trees (fixed_bytes_of a0)) Empty)
log_entry_type_data_plain (PrecertEntry a0) = Join (Number 1) (Join (pre_cert_plain a0) Empty)

abbrev pub log_entry_type_data_variants : Variants
log_entry_type_data_variants =
    variant 0 (fields_format (bounded_bytes_format 3 1 16777215) nothing_format)
    (variant 1 (fields_format pre_cert_format nothing_format)
    no_variant)

pub log_entry_type_data_variants_meet : MeetsVariantLaws log_entry_type_data_variants
log_entry_type_data_variants_meet =
    variant_meets 0 (fields_meets (bounded_bytes_meets 3 1 16777215 (omega arith)) nothing_meets)
    (variant_meets 1 (fields_meets pre_cert_meets nothing_meets)
    no_variant_meets)

abbrev pub log_entry_type_data_format : Format
log_entry_type_data_format = tagged_format 2 log_entry_type_data_variants

pub log_entry_type_data_meets : MeetsLaws log_entry_type_data_format
log_entry_type_data_meets = tagged_meets 2 (omega arith) log_entry_type_data_variants_meet
