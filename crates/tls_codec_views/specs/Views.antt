-- What is borrowed from an encoding.
use Rattle.std.specs.Prelude.{◌≡◌, ℕ, List, ◌++◌, [], length, Option, Some, None, Result, Ok, Err}
use Rattle.std.specs.Borrow.{Bor}
use Rattle.tls_codec_grammar.specs.Field.{Field}
use Rattle.tls_codec_grammar.specs.Tree.{Number, Tree}
use Rattle.tls_codec_grammar.specs.Grammar.{Grammar, number}
use Rattle.tls_codec_grammar.specs.Decoding.{Begins}
use Rattle.tls_codec_grammar.specs.Format.{Format}
use Rattle.tls_codec_base.specs.PartNames.{IsSpelling}
use Rattle.tls_codec_validate.specs.declared.rejected.Rejected.{Rejected}
use Rattle.tls_codec_validate.specs.Keys.{KeyOf}
use Rattle.tls_codec_validate.specs.Validated.{Rejects}

-- the bytes begin with an encoding, which is first, and the rest is second; or why they don't
abbrev pub SplitsEncoded : Format → List ℕ → Result (List ℕ × Bor (List ℕ)) Rejected → Type 0
SplitsEncoded f x (Ok found) = (x ≡ found.0 ++ found.1.now) × IsSpelling f.spells found.0
SplitsEncoded f x (Err r) = Rejects f.spells x r.error

-- a length comes first in x, and counts these bytes, which are the rest
pub record IsAfterLength (field : Field) (x inside : List ℕ) : Type 0 where
  pub count : List ℕ
  pub whole : x ≡ count ++ inside
  pub counts : field.spells count (length inside)

-- an element, and the bytes of those after it; or there is none
abbrev pub GivesElement : Grammar → List ℕ → Option (List ℕ) → List ℕ → Type 0
GivesElement spells x None left = (x ≡ []) × (left ≡ [])
GivesElement spells x (Some element) left = (x ≡ element ++ left) × IsSpelling spells element

-- a tag in k bytes comes first in x, and is this number; these bytes are the rest
abbrev pub IsCase : ℕ → ℕ → List ℕ → List ℕ → Type 0
IsCase k tag x parts = Begins (number k) x (Number tag) parts

-- in a context that has the key, the bytes are an encoding
abbrev pub IsEncodedFor : {K : Type 0} → KeyOf K → K → (Tree → Format) → List ℕ → Type 0
IsEncodedFor is_key key format x = (c : Tree) × is_key key c × IsSpelling (format c).spells x

-- what holds in each context that has the key
abbrev pub InEachContext : {K : Type 0} → KeyOf K → K → (Tree → Type 0) → Type 0
InEachContext is_key key property = (c : Tree) → is_key key c → property c

-- an element in the context of a key, and the bytes of those after it; or there is none
abbrev pub GivesElementFor : {K : Type 0} → K × List ℕ → Option (K × List ℕ) → K × List ℕ → Type 0
GivesElementFor old None new = (old.1 ≡ []) × (new ≡ old)
GivesElementFor old (Some element) new = (old.1 ≡ element.1 ++ new.1) × (element.0 ≡ old.0) × (new.0 ≡ old.0)
