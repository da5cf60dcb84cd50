-- The laws that each type's grammar and announced length meet.
use Rattle.std.specs.Prelude.{◌≡◌, ◌≢◌, ◌<◌, ◌^◌, ℕ, List, ◌++◌, length}
use Rattle.tls_codec_grammar.specs.Tree.{Tree}
use Rattle.tls_codec_grammar.specs.Grammar.{Grammar, Reading, Writing}
use Rattle.tls_codec_wire.specs.Numbers.{NoNumberBegins}
use Rattle.tls_codec_grammar.specs.Shortest.{HasNoSpelling}
use Rattle.tls_codec_grammar.specs.Announced.{capped}
use Rattle.tls_codec_grammar.specs.Field.{Field}
use Rattle.tls_codec_grammar.specs.Format.{Format}
use Rattle.tls_codec_wire.specs.declared.error.Error.{Error}
use Rattle.tls_codec_wire.specs.declared.error.Error.TheVariants.{InvalidVectorLength, OutOfMemory, TrailingData}

pub record IsLawful (spells : Grammar) (announced : Tree → ℕ) : Type 0 where
  -- if two reading spellings begin one byte list, they are equal and spell one value
  pub one : (s t x y : List ℕ) (v w : Tree) → spells Reading s v → spells Reading t w → s ++ x ≡ t ++ y → (s ≡ t) × (v ≡ w)
  -- a value has at most one writing spelling
  pub alone : (s t : List ℕ) (v : Tree) → spells Writing s v → spells Writing t v → s ≡ t
  -- a reading spelling is a writing spelling of the value
  pub written : (s : List ℕ) (v : Tree) → spells Reading s v → spells Writing s v
  -- the announced length is that of the spelling
  pub announces : (s : List ℕ) (v : Tree) → spells Writing s v → announced v ≡ capped (length s)

-- The same laws for what comes after a length field, which says where it ends. There the laws ask only that one
-- byte list has one value.
pub record IsLawfulInside (inside : Grammar) (announced : Tree → ℕ) : Type 0 where
  pub same : (c : List ℕ) (v w : Tree) → inside Reading c v → inside Reading c w → v ≡ w
  pub alone : (c d : List ℕ) (v : Tree) → inside Writing c v → inside Writing d v → c ≡ d
  pub written : (c : List ℕ) (v : Tree) → inside Reading c v → inside Writing c v
  pub announces : (c : List ℕ) (v : Tree) → inside Writing c v → announced v ≡ capped (length c)

-- What a length field meets: none begins another, a number has at most one, and this is its width.
pub record IsLengthField (field : List ℕ → ℕ → Type 0) (width : ℕ → ℕ) : Type 0 where
  pub one : (a b x y : List ℕ) (m n : ℕ) → field a m → field b n → a ++ x ≡ b ++ y → (a ≡ b) × (m ≡ n)
  pub alone : (a b : List ℕ) (n : ℕ) → field a n → field b n → a ≡ b
  pub measures : (a : List ℕ) (n : ℕ) → field a n → width n ≡ length a

-- The laws of a length field with the numbers that it holds, which memory can't pass: each of them has a spelling, and no
-- other; and bytes that it refuses begin with no spelling.
pub record MeetsFieldLaws (field : Field) : Type 0 where
  pub counts : IsLengthField field.spells field.width
  pub each : (n : ℕ) → field.holds n → (b : List ℕ) × field.spells b n
  pub held : (b : List ℕ) (n : ℕ) → field.spells b n → field.holds n
  pub small : (n : ℕ) → field.holds n → n < 2 ^ 62
  pub none : (x : List ℕ) (e : Error) → field.refuses x e → NoNumberBegins field.spells x
  pub named : (x : List ℕ) (e : Error) → field.refuses x e → (e ≢ OutOfMemory) × (e ≢ TrailingData)
  pub cut : (e : Error) → field.cut_off e → (e ≢ OutOfMemory) × (e ≢ TrailingData)

-- The laws of a format: those of its spellings; what it refuses has no spelling; `OutOfMemory` isn't among the errors
-- that it names; what is refused before anything is sent is `InvalidVectorLength`.
pub record MeetsLaws (f : Format) : Type 0 where
  pub spelled : IsLawful f.spells f.announced
  pub unspelled : (v : Tree) (e : Error) → f.refuses v e → HasNoSpelling f.spells v
  pub not_memory : (v : Tree) → f.refuses v OutOfMemory → ⊥
  pub outside : (v : Tree) → f.out_of_bounds v → f.refuses v InvalidVectorLength

-- The same for what comes after a length field.
pub record MeetsLawsInside (f : Format) : Type 0 where
  pub spelled : IsLawfulInside f.spells f.announced
  pub unspelled : (v : Tree) (e : Error) → f.refuses v e → HasNoSpelling f.spells v
  pub not_memory : (v : Tree) → f.refuses v OutOfMemory → ⊥
