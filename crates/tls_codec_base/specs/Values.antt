-- A number in k bytes that is one of some values (RFC 8446, section 3.5): a tag with nothing after it.
use Rattle.std.specs.Prelude.{◌≡◌, ℕ, List, Bool, true, false}
use Rattle.tls_codec_wire.specs.Seen.{Causes}
use Rattle.tls_codec_wire.specs.declared.error.Error.TheVariants.{UnknownValue}
use Rattle.tls_codec_grammar.specs.Tree.{Tree}
use Rattle.tls_codec_grammar.specs.Grammar.{Direction}
use Rattle.tls_codec_grammar.specs.Format.{Format, nothing_format}
use Rattle.tls_codec_grammar.specs.Lawful.{MeetsLaws}
use Rattle.tls_codec_grammar.specs.Tagged.{MeetsVariantLaws, Variants, either_format, no_format, tagged_format}
use Rattle.tls_codec_grammar.specs.laws.FormatLaws.{nothing_meets}
use Rattle.tls_codec_grammar.specs.laws.TaggedLaws.{no_variant_meets}
use Rattle.tls_codec_base.specs.PartNames.{SliceNames}
use Rattle.tls_codec_base.specs.TaggedNames.{tagged_names, tagged_source_names}

-- nothing comes after a tag that is one of the values
abbrev pub values : (ℕ → Bool) → Variants
values has = record { has = has; parts = λ tag. either_format (has tag) nothing_format no_format; lean = true }

abbrev pub values_format : ℕ → (ℕ → Bool) → Format
values_format k has = tagged_format k (values has)

-- a number that is none of the values is named
abbrev pub values_names : ℕ → (ℕ → Bool) → SliceNames
values_names k has = tagged_names k (λ tag x e. (has tag ≡ false) × (e ≡ UnknownValue tag))

abbrev pub values_source_names : ℕ → (ℕ → Bool) → Causes
values_source_names k has = tagged_source_names k (λ tag x old new e. (has tag ≡ false) × (e ≡ UnknownValue tag))

-- ---- the law

value_meets : (b : Bool) → MeetsLaws (either_format b nothing_format no_format)
value_meets true = nothing_meets
value_meets false = no_variant_meets.parts 0

none_spelled : (b : Bool) → b ≡ false → (d : Direction) (s : List ℕ) (v : Tree) → (either_format b nothing_format no_format).spells d s v → ⊥
none_spelled true h d s v p = absurd cc
none_spelled false h d s v p = p

takes_none : (b : Bool) → (either_format b nothing_format no_format).lean ≡ false → true ≡ false
takes_none true h = h
takes_none false h = h

pub values_meet : (has : ℕ → Bool) → MeetsVariantLaws (values has)
values_meet has = record {
  parts = λ tag. value_meets (has tag);
  unknown = λ tag h d s v p. none_spelled (has tag) h d s v p;
  memory = λ tag h. takes_none (has tag) h;
}
