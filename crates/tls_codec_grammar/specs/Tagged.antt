-- A tag, and after it the parts of the variant that has it (RFC 8446, section 3.8).
use Rattle.std.specs.Prelude.{◌≡◌, ◌+◌, ◌==◌, ◌&&◌, ◌||◌, ℕ, List, Bool, true, false}
use Rattle.tls_codec_wire.specs.declared.error.Error.{Error}
use Rattle.tls_codec_grammar.specs.Tree.{Tree, Number, Join}
use Rattle.tls_codec_grammar.specs.Grammar.{Direction, Grammar, number, fields}
use Rattle.tls_codec_grammar.specs.Announced.{capped}
use Rattle.tls_codec_grammar.specs.Format.{Format, atom}
use Rattle.tls_codec_grammar.specs.Lawful.{MeetsLaws}

pub record Variants : Type 1 where
  -- which tags there are
  pub has : ℕ → Bool
  -- what comes after each tag
  pub parts : ℕ → Format
  -- decoders take no memory, whatever the tag is
  pub lean : Bool

-- what no bytes spell
abbrev pub no_format : Format
no_format = atom (λ d b v. ⊥) (λ v. 0)

-- no variant has the tag
abbrev pub no_variant : Variants
no_variant = record { has = λ tag. false; parts = λ tag. no_format; lean = true }

abbrev pub either_format : Bool → Format → Format → Format
either_format true these those = these
either_format false these those = those

-- the variant of this tag has these parts; the others say what comes after another tag
abbrev pub variant : ℕ → Format → Variants → Variants
variant own parts others = record {
  has = λ tag. (tag == own) || others.has tag;
  parts = λ tag. either_format (tag == own) parts (others.parts tag);
  lean = parts.lean && others.lean;
}

-- a value is the list of its tag, as a number, and of its parts
abbrev pub tagged : ℕ → Variants → Grammar
tagged k variants d b (Join (Number tag) vs) = fields (number k) (variants.parts tag).spells d b (Join (Number tag) vs)
tagged k variants d b _ = ⊥

abbrev pub tagged_length : ℕ → Variants → Tree → ℕ
tagged_length k variants (Join (Number tag) vs) = capped (k + (variants.parts tag).announced vs)
tagged_length k variants _ = 0

-- the parts' errors are passed on
abbrev pub tagged_refuses : Variants → Tree → Error → Type 0
tagged_refuses variants (Join (Number tag) vs) e = (variants.parts tag).refuses vs e
tagged_refuses variants _ e = ⊥

-- a tag in k bytes, and the parts of its variant
abbrev pub tagged_format : ℕ → Variants → Format
tagged_format k variants = record {
  spells = tagged k variants;
  announced = tagged_length k variants;
  lean = variants.lean;
  refuses = tagged_refuses variants;
  out_of_bounds = λ v. ⊥;
}

-- The laws of variants: what comes after each tag meets the laws; no bytes come after a tag that isn't there; and if
-- decoders of one variant take memory, not all of them take none.
pub record MeetsVariantLaws (variants : Variants) : Type 0 where
  pub parts : (tag : ℕ) → MeetsLaws (variants.parts tag)
  pub unknown : (tag : ℕ) → variants.has tag ≡ false → (d : Direction) (s : List ℕ) (v : Tree) → (variants.parts tag).spells d s v → ⊥
  pub memory : (tag : ℕ) → (variants.parts tag).lean ≡ false → variants.lean ≡ false
