-- The case of every tag that no other has: what comes after each tag up to the greatest.
use Rattle.std.proofs.Common.{◌≡◌, ℕ, List, Bool, true, false}
use Rattle.std.specs.Prelude.{nat_le}
use Rattle.tls_codec_wire.specs.Seen.{Causes}
use Rattle.tls_codec_grammar.specs.Grammar.{Direction}
use Rattle.tls_codec_grammar.specs.Tree.{Tree}
use Rattle.tls_codec_grammar.specs.Format.{Format}
use Rattle.tls_codec_grammar.specs.Lawful.{MeetsLaws}
use Rattle.tls_codec_grammar.specs.Tagged.{MeetsVariantLaws, Variants, either_format, no_format}
use Rattle.tls_codec_grammar.specs.laws.TaggedLaws.{no_variant_meets}
use Rattle.tls_codec_base.specs.PartNames.{SliceNames}
use Rattle.tls_codec_base.specs.TaggedNames.{either_names, either_source_names, no_variant_names, no_variant_source_names}

-- each tag up to the greatest has these parts
abbrev pub others : ℕ → Format → Variants
others most parts = record {
  has = λ tag. nat_le tag most;
  parts = λ tag. either_format (nat_le tag most) parts no_format;
  lean = parts.lean;
}

abbrev pub others_names : ℕ → SliceNames → ℕ → SliceNames
others_names most parts tag = either_names (nat_le tag most) parts (no_variant_names tag)

abbrev pub others_source_names : ℕ → Causes → ℕ → Causes
others_source_names most parts tag = either_source_names (nat_le tag most) parts (no_variant_source_names tag)

-- ---- the law

there_or_none : (b : Bool) {parts : Format} → MeetsLaws parts → MeetsLaws (either_format b parts no_format)
there_or_none true l = l
there_or_none false l = no_variant_meets.parts 0

none_spelled : (b : Bool) (parts : Format) → b ≡ false → (d : Direction) (s : List ℕ) (v : Tree) → (either_format b parts no_format).spells d s v → ⊥
none_spelled true parts h d s v p = absurd cc
none_spelled false parts h d s v p = p

takes_memory : (b : Bool) (parts : Format) → (either_format b parts no_format).lean ≡ false → parts.lean ≡ false
takes_memory true parts h = h
takes_memory false parts h = absurd cc

pub others_meet : (most : ℕ) {parts : Format} → MeetsLaws parts → MeetsVariantLaws (others most parts)
others_meet most {parts} l = record {
  parts = λ tag. there_or_none (nat_le tag most) l;
  unknown = λ tag h d s v p. none_spelled (nat_le tag most) parts h d s v p;
  memory = λ tag h. takes_memory (nat_le tag most) parts h;
}
