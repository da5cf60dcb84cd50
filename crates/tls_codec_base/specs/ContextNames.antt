-- Which errors decoders name of parts that a context decides, and of values inside a length.
use Rattle.std.specs.Prelude.{◌≡◌, ◌<◌, ◌⊎◌, ℕ, List, length, take}
use Rattle.tls_codec_wire.specs.Numbers.{NumberNotRead}
use Rattle.tls_codec_wire.specs.Seen.{Causes}
use Rattle.tls_codec_wire.specs.declared.error.Error.TheVariants.{TrailingData}
use Rattle.tls_codec_grammar.specs.Tree.{Tree}
use Rattle.tls_codec_grammar.specs.Grammar.{Grammar, Reading}
use Rattle.tls_codec_grammar.specs.Field.{Field}
use Rattle.tls_codec_grammar.specs.Format.{Format}
use Rattle.tls_codec_grammar.specs.Decoding.{Begins, part_source_names}
use Rattle.tls_codec_base.specs.PartNames.{NamedAfter, NamedAfterLength, SliceNames, SourceNamedAfter, SourceNamedAfterLength, part_names}

-- ---- a first part, and the others that its value decides

-- from a slice: the first part is refused, or after a spelling of it the others that its value decides are
abbrev pub then_names : Format → SliceNames → (Tree → SliceNames) → SliceNames
then_names first names others x e = part_names first names x e ⊎ ((v : Tree) × NamedAfter (λ s. first.spells Reading s v) (others v) x e)

-- the same from a source
abbrev pub then_source_names : Format → Causes → (Tree → Causes) → Causes
then_source_names first names others x old new e =
    part_source_names first names x old new e ⊎ ((v : Tree) × SourceNamedAfter (λ s. first.spells Reading s v) (others v) x old new e)

-- ---- a value inside a length

-- x begins with a spelling of fewer than n bytes
pub record Underfills (spells : Grammar) (n : ℕ) (x : List ℕ) : Type 0 where
  pub value : Tree
  pub rest : List ℕ
  pub begins : Begins spells x value rest
  pub short : length begins.front < n

-- from a slice: fewer than n bytes are there, no value is read from the first n, or a byte is left of them
abbrev pub filling_names : Field → Format → SliceNames → ℕ → SliceNames
filling_names field f names n x e =
    ((length x < n) × field.cut_off e) ⊎ (names (take n x) e ⊎ ((e ≡ TrailingData) × Underfills f.spells n x))

-- the length is refused, or after a length the value is
abbrev pub enclosed_names : Field → Format → SliceNames → SliceNames
enclosed_names field f names x e =
    field.refuses x e ⊎ NamedAfterLength field (filling_names field f names) x e

-- the same from a source
abbrev pub filling_source_names : Format → Causes → ℕ → Causes
filling_source_names f names n x old new e =
    part_source_names f names (take n x) old new e ⊎ ((e ≡ TrailingData) × Underfills f.spells n x)

abbrev pub enclosed_source_names : Field → Format → Causes → Causes
enclosed_source_names field f names x old new e =
    NumberNotRead field.refuses x old new e
    ⊎ SourceNamedAfterLength field (filling_source_names f names) x old new e
