-- What each message stands for, its format and its laws.
use Rattle.std.proofs.Common.{arith}
use Rattle.std.specs.Prelude.{◌≡◌, ℕ, string_bytes, ⊤}
use Rattle.tls_codec.specs.OwnMessages.{Tree, Number, Empty, Join, trees, number_trees, option_plain, Format, number_format, option_format, nothing_format, fields_format, fixed_list_format, bytes_format, fixed_bytes_format, text_format, Variants, no_variant, variant, tagged_format, MeetsLaws, MeetsVariantLaws, u16_meets, u32_meets, option_meets, nothing_meets, fields_meets, fixed_list_meets, bytes_meets, fixed_bytes_meets, text_meets, no_variant_meets, variant_meets, tagged_meets}
use Rattle.tls_codec.specs.Contents.{bytes_of, fixed_bytes_of, elements_of}
use Rattle.tls_codec_vectors.specs.declared.leaf.Leaf.{Leaf}
use Rattle.tls_codec_vectors.specs.declared.log.Log.{Log}
use Rattle.tls_codec_vectors.specs.declared.step.Step.{Step}
use Rattle.tls_codec_vectors.specs.declared.step.Step.TheVariants.{Ping, Note, Jump}

-- ---- a leaf: two fields in a row

abbrev pub leaf_plain : Leaf → Tree
leaf_plain leaf = Join (Number leaf.code) (Join (number_trees (bytes_of leaf.name)) Empty)

abbrev pub leaf_format : Format
leaf_format = fields_format (number_format 2) (fields_format bytes_format nothing_format)

pub leaf_meets : MeetsLaws leaf_format
leaf_meets = fields_meets u16_meets (fields_meets bytes_meets nothing_meets)

-- ---- a step: a tag of one byte, and what the tag's variant has after it

abbrev pub step_plain : Step → Tree
step_plain Ping = Join (Number 0) Empty
step_plain (Note text) = Join (Number 1) (Join (number_trees (string_bytes text)) Empty)
step_plain (Jump to) = Join (Number 2) (Join (Number to) Empty)

abbrev pub step_variants : Variants
step_variants =
    variant 0 nothing_format
    (variant 1 (fields_format text_format nothing_format)
    (variant 2 (fields_format (number_format 4) nothing_format)
    no_variant))

pub step_variants_meet : MeetsVariantLaws step_variants
step_variants_meet =
    variant_meets 0 nothing_meets
    (variant_meets 1 (fields_meets text_meets nothing_meets)
    (variant_meets 2 (fields_meets u32_meets nothing_meets)
    no_variant_meets))

abbrev pub step_tag : Tree → ℕ
step_tag (Join (Number tag) parts) = tag
step_tag _ = 0

abbrev pub step_format : Format
step_format = tagged_format 1 step_variants

pub step_meets : MeetsLaws step_format
step_meets = tagged_meets 1 (omega arith) step_variants_meet

-- one variant, with equal fields
abbrev pub SameStep : Step → Step → Type 0
SameStep Ping Ping = ⊤
SameStep (Note x) (Note y) = string_bytes x ≡ string_bytes y
SameStep (Jump x) (Jump y) = x ≡ y
SameStep _ _ = ⊥

-- ---- a log: an identity, leaves and perhaps a last step, in a row

abbrev pub log_plain : Log → Tree
log_plain log =
    Join (number_trees (fixed_bytes_of log.id))
    (Join (trees leaf_plain (elements_of log.leaves))
    (Join (option_plain step_plain log.last)
    Empty))

abbrev pub log_format : Format
log_format = fields_format (fixed_bytes_format 1) (fields_format (fixed_list_format 2 leaf_format) (fields_format (option_format step_format) nothing_format))

pub log_meets : MeetsLaws log_format
log_meets = fields_meets (fixed_bytes_meets 1) (fields_meets (fixed_list_meets 2 leaf_meets) (fields_meets (option_meets step_meets) nothing_meets))
