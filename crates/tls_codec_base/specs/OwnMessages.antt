-- The words with which a message of your own says what it stands for and which bytes spell it. And
-- the laws that it cites: one for each field of a struct, and one for each variant of an enum.
use Rattle.std.proofs.Common.{ℕ, ◌≤◌, ◌^◌, arith}
use Rattle.tls_codec_grammar.specs.Field.{bounded_field, fixed_field}
use Rattle.tls_codec_grammar.specs.Format.{counted_bytes_format, counted_list_format}
use Rattle.tls_codec_grammar.specs.laws.FormatLaws.{bounded_field_meets, counted_bytes_meets, counted_list_meets, fixed_field_meets, number_meets}
pub use Rattle.tls_codec_grammar.specs.Tree.{Tree, Number, Empty, Join, trees, number_trees, option_plain}
pub use Rattle.tls_codec_grammar.specs.Format.{Format, number_format, varint_format, array_format, with_memory, option_format, nothing_format, fields_format, pair_format, triple_format, list_format, fixed_list_format, bytes_format, text_format}
pub use Rattle.tls_codec_grammar.specs.Tagged.{MeetsVariantLaws, Variants, no_variant, variant, tagged_format}
pub use Rattle.tls_codec_grammar.specs.Lawful.{MeetsLaws, MeetsLawsInside}
pub use Rattle.tls_codec_grammar.specs.Contexts.{EachMeetsLaws, chosen_format, has_tag, is_number, present_format, then_format}
pub use Rattle.tls_codec_grammar.specs.Inside.{ReadsInside, bytes_to_end_format, enclosed_format, zeros_format}
pub use Rattle.tls_codec_grammar.specs.laws.FormatLaws.{array_meets, varint_meets, with_memory_meets, option_meets, nothing_meets, fields_meets, pair_meets, triple_meets, list_meets, fixed_list_meets, bytes_meets, text_meets}
pub use Rattle.tls_codec_grammar.specs.laws.TaggedLaws.{no_variant_meets, variant_meets, tagged_meets}
pub use Rattle.tls_codec_grammar.specs.laws.ThenLaws.{then_meets}
pub use Rattle.tls_codec_grammar.specs.laws.ContextLaws.{chosen_meets, present_meets}
pub use Rattle.tls_codec_grammar.specs.laws.InsideLaws.{bytes_to_end_meet, enclosed_meets, fields_meet_inside, inside_meets, zeros_meet}
pub use Rattle.tls_codec_base.specs.ContextNames.{then_names, then_source_names}
pub use Rattle.tls_codec_base.specs.TaggedNames.{no_variant_names, no_variant_source_names, nothing_names, nothing_source_names, tagged_names, tagged_source_names, variant_names, variant_source_names}
pub use Rattle.tls_codec_base.specs.Values.{values, values_format, values_meet, values_names, values_source_names}

-- what a struct of two or three fields stands for
abbrev pub pair_tree : (a b : Tree) → Tree
pair_tree a b = Join a (Join b Empty)

abbrev pub triple_tree : (a b c : Tree) → Tree
triple_tree a b c = Join a (Join b (Join c Empty))

-- bytes after a length of k bytes (RFC 8446, section 3.4)
abbrev pub fixed_bytes_format : ℕ → Format
fixed_bytes_format k = fixed_list_format k (number_format 1)

-- elements after a length of k bytes that is neither below the least number nor above the most; and bytes
abbrev pub bounded_list_format : (k least most : ℕ) → Format → Format
bounded_list_format k least most element = counted_list_format (bounded_field least most (fixed_field k)) element

abbrev pub bounded_bytes_format : (k least most : ℕ) → Format
bounded_bytes_format k least most = counted_bytes_format (bounded_field least most (fixed_field k))

-- ---- laws of numbers, and of bytes after a length of k bytes

pub u8_meets : MeetsLaws (number_format 1)
u8_meets = number_meets 1 (omega arith)

pub u16_meets : MeetsLaws (number_format 2)
u16_meets = number_meets 2 (omega arith)

pub u24_meets : MeetsLaws (number_format 3)
u24_meets = number_meets 3 (omega arith)

pub u32_meets : MeetsLaws (number_format 4)
u32_meets = number_meets 4 (omega arith)

pub u64_meets : MeetsLaws (number_format 8)
u64_meets = number_meets 8 (omega arith)

pub fixed_bytes_meets : (k : ℕ) → MeetsLaws (fixed_bytes_format k)
fixed_bytes_meets k = fixed_list_meets k u8_meets

-- ---- laws of vectors with bounds

pub bounded_list_meets : (k least most : ℕ) → 256 ^ k ≤ 2 ^ 62 → {element : Format} → MeetsLaws element → MeetsLaws (bounded_list_format k least most element)
bounded_list_meets k least most small l = counted_list_meets (bounded_field_meets least most (fixed_field_meets k small)) l

pub bounded_bytes_meets : (k least most : ℕ) → 256 ^ k ≤ 2 ^ 62 → MeetsLaws (bounded_bytes_format k least most)
bounded_bytes_meets k least most small = counted_bytes_meets (bounded_field_meets least most (fixed_field_meets k small))
