-- Bytes, the type of what they are, and zeros after it, which go to the end of what is read (RFC
-- 8446, sections 5.2 and 5.4).
use Rattle.std.specs.Prelude.{◌≡◌, ◌≢◌, ◌⊎◌, ◌++◌, ◌∷◌, [], All, List, codes, length, ℕ}
use Rattle.tls_codec_wire.specs.declared.error.Error.{Error}
use Rattle.tls_codec_wire.specs.declared.error.Error.TheVariants.{EncodingError, OutOfMemory, TrailingData}
use Rattle.tls_codec_grammar.specs.Decoding.{LeavesBytes}
use Rattle.tls_codec_grammar.specs.Errors.{Says}
use Rattle.tls_codec_grammar.specs.Format.{Format, fields_format}
use Rattle.tls_codec_grammar.specs.Grammar.{Grammar, Reading}
use Rattle.tls_codec_grammar.specs.Inside.{bytes_to_end_format}
use Rattle.tls_codec_grammar.specs.Shortest.{HasNoSpelling}
use Rattle.tls_codec_grammar.specs.Tree.{Join, Number, Tree, number_trees}
use Rattle.tls_codec_cases.specs.Padded.{padded_format}
use Rattle.tls_codec_cases.specs.declared.inner.InnerPlaintext.{InnerPlaintext}

-- one byte, which isn't zero
pub record IsNonzero (b : List ℕ) : Type 0 where
  pub byte : ℕ
  pub is : b ≡ byte ∷ []
  pub some : byte ≢ 0

abbrev pub nonzero : Grammar → Grammar
nonzero kind d b v = kind d b v × IsNonzero b

-- the refusal of a type that isn't spelled so
abbrev pub IsNoType : Error → Type 0
IsNoType (EncodingError text) = text.now ≡ codes "type is not a byte other than zero"
IsNoType _ = ⊥

abbrev pub nonzero_format : Format → Format
nonzero_format kind = record {
  spells = nonzero kind.spells;
  announced = kind.announced;
  lean = kind.lean;
  refuses = λ v e. kind.refuses v e ⊎ (IsNoType e × HasNoSpelling (nonzero kind.spells) v);
  out_of_bounds = λ v. ⊥;
}

abbrev pub inner_plain : {T : Type 0} → (T → Tree) → InnerPlaintext T → Tree
inner_plain plain v = Join (number_trees v.content.items) (Join (plain v.kind) (Number v.padding))

abbrev pub inner_format : Format → Format
inner_format kind = fields_format bytes_to_end_format (padded_format (nonzero_format kind))

-- ---- what is refused

-- x is a content, the byte of its type, which isn't zero, and n zeros
pub record EndsIn (x content kind : List ℕ) (n : ℕ) : Type 0 where
  pub zeros : List ℕ
  pub whole : x ≡ content ++ (kind ++ zeros)
  pub nonzero : IsNonzero kind
  pub padding : (length zeros ≡ n) × All (λ b. b ≡ 0) zeros

-- the byte of the type is refused
pub record RefusesType (spells : Grammar) (names : List ℕ → Error → Type 0) (x : List ℕ) (e : Error) : Type 0 where
  pub content : List ℕ
  pub kind : List ℕ
  pub padding : ℕ
  pub ends : EndsIn x content kind padding
  pub refused : ((e ≡ TrailingData) × LeavesBytes spells kind) ⊎ names kind e

-- x is a content, the byte of a type, and zeros
pub record HasType (spells : Grammar) (x : List ℕ) : Type 0 where
  pub content : List ℕ
  pub kind : List ℕ
  pub padding : ℕ
  pub value : Tree
  pub ends : EndsIn x content kind padding
  pub spelled : spells Reading kind value

-- each byte is zero; or the type is refused; or it is read, and there was no memory for the content
abbrev pub RefusesInner : Grammar → (List ℕ → Error → Type 0) → List ℕ → Error → Type 0
RefusesInner spells names x e = (Says (codes "type is not there") e × All (λ b. b ≡ 0) x)
    ⊎ (RefusesType spells names x e ⊎ ((e ≡ OutOfMemory) × HasType spells x))
