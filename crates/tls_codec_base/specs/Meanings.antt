-- Words of the table of types: what values stand for, how they are spelled, and which errors decoders name.
use Rattle.std.specs.Prelude.{◌≡◌, ◌<◌, ◌↔◌, ℕ, Bool, IsTrue, List, length}
use Rattle.tls_codec_wire.specs.Counts.{Counts}
use Rattle.tls_codec_wire.specs.Seen.{Causes}
use Rattle.tls_codec_wire.specs.declared.error.Error.{Error}
use Rattle.tls_codec_wire.specs.declared.error.Error.TheVariants.{EndOfStream}
use Rattle.tls_codec_grammar.specs.Tree.{Tree}
use Rattle.tls_codec_grammar.specs.Grammar.{Direction}
use Rattle.tls_codec_grammar.specs.Field.{Field}
use Rattle.tls_codec_grammar.specs.Format.{Format}
use Rattle.tls_codec_base.specs.PartNames.{SliceNames}
use Rattle.tls_codec_base.specs.declared.traits.Size.{Ghosts}

-- two formats say the same of each value and of all bytes
pub record SameFormat (f g : Format) : Type 0 where
  pub spells : (d : Direction) (s : List ℕ) (v : Tree) → f.spells d s v ↔ g.spells d s v
  pub announced : (v : Tree) → f.announced v ≡ g.announced v
  pub lean : f.lean ≡ g.lean
  pub refuses : (v : Tree) (e : Error) → f.refuses v e ↔ g.refuses v e
  pub out_of_bounds : (v : Tree) → f.out_of_bounds v ↔ g.out_of_bounds v

-- a type's values stand for these trees, and are spelled in this format
pub record Means {T : Type 0} (size : Ghosts T) (plain : T → Tree) (format : Format) : Type 0 where
  pub stands_for : (v : T) → size.plain v ≡ plain v
  pub spelled : SameFormat size.format format

-- the same errors are named, whatever the bytes
abbrev pub SameNames : SliceNames → SliceNames → Type 0
SameNames m n = (x : List ℕ) (e : Error) → m x e ↔ n x e

-- the same from a source
abbrev pub SameSourceNames : Causes → Causes → Type 0
SameSourceNames m n = (x : List ℕ) (old new : Counts) (e : Error) → m x old new e ↔ n x old new e

-- fewer than k bytes are there
abbrev pub too_few : ℕ → SliceNames
too_few k x e = (e ≡ EndOfStream) × (length x < k)

-- two length fields say the same of each number and of all bytes
pub record SameField (f g : Field) : Type 0 where
  pub spells : (b : List ℕ) (n : ℕ) → f.spells b n ↔ g.spells b n
  pub width : (n : ℕ) → f.width n ≡ g.width n
  pub holds : (n : ℕ) → f.holds n ↔ g.holds n
  pub refuses : (x : List ℕ) (e : Error) → f.refuses x e ↔ g.refuses x e
  pub cut_off : (e : Error) → f.cut_off e ↔ g.cut_off e

-- values that stand for one tree are equal
abbrev pub EqualWhereAlike : {T : Type 0} → (T → Tree) → (T → T → Bool) → Type 0
EqualWhereAlike {T} plain eq = (x y : T) → plain x ≡ plain y → IsTrue (eq x y)
