-- LogEntry: what it stands for, its format and its law.
use Rattle.std.proofs.Common.{arith}
use Rattle.std.specs.Prelude.{ℕ}
use Rattle.tls_codec.specs.OwnMessages.{Tree, Number, Empty, Join, Format, nothing_format, fields_format, Variants, no_variant, variant, tagged_format, MeetsLaws, MeetsVariantLaws, nothing_meets, fields_meets, no_variant_meets, variant_meets, tagged_meets}
use Rattle.ct.specs.X509ChainEntry.{x509_chain_entry_plain, x509_chain_entry_format, x509_chain_entry_meets}
use Rattle.ct.specs.PrecertChainEntry.{precert_chain_entry_plain, precert_chain_entry_format, precert_chain_entry_meets}
use Rattle.ct.specs.declared.log_entry.LogEntry.{LogEntry}
use Rattle.ct.specs.declared.log_entry.LogEntry.TheVariants.{X509Entry, PrecertEntry}

-- the tag of each case
abbrev pub log_entry_tag : LogEntry → ℕ
log_entry_tag (X509Entry a0) = 0
log_entry_tag (PrecertEntry a0) = 1

abbrev pub log_entry_plain : LogEntry → Tree
log_entry_plain (X509Entry a0) = Join (Number 0) (Join (x509_chain_entry_plain a0) Empty)
log_entry_plain (PrecertEntry a0) = Join (Number 1) (Join (precert_chain_entry_plain a0) Empty)

abbrev pub log_entry_variants : Variants
log_entry_variants =
    variant 0 (fields_format x509_chain_entry_format nothing_format)
    (variant 1 (fields_format precert_chain_entry_format nothing_format)
    no_variant)

pub log_entry_variants_meet : MeetsVariantLaws log_entry_variants
log_entry_variants_meet =
    variant_meets 0 (fields_meets x509_chain_entry_meets nothing_meets)
    (variant_meets 1 (fields_meets precert_chain_entry_meets nothing_meets)
    no_variant_meets)

abbrev pub log_entry_format : Format
log_entry_format = tagged_format 2 log_entry_variants

pub log_entry_meets : MeetsLaws log_entry_format
log_entry_meets = tagged_meets 2 (omega arith) log_entry_variants_meet
