-- Which bytes spell which values.
use Rattle.std.specs.Prelude.{◌≡◌, ℕ, ◌<◌, List, [], ◌∷◌, ◌++◌, length, IsUtf8}
use Rattle.tls_codec_wire.specs.Digits.{AreBytes, Digits}
use Rattle.tls_codec_wire.specs.Varint.{Varint, VectorLength}
use Rattle.tls_codec_grammar.specs.Tree.{Tree, Number, Empty, Join, number_trees}

-- There are two grammars, in one definition with a switch: bytes are read by one, and written by the other,
-- which is wider. They differ in `Admits` alone (the crate's rule).
pub data Direction : Type 0 where
  Reading : Direction
  Writing : Direction

-- these bytes spell this value
abbrev pub Grammar : Type 1
Grammar = Direction → List ℕ → Tree → Type 0

-- ---- atoms

-- a number in k bytes (RFC 8446, section 3.3)
abbrev pub number : ℕ → Grammar
number k d b (Number n) = Digits k b n
number k d b Empty = ⊥
number k d b (Join v vs) = ⊥

-- a variable-length integer in the least width (RFC 9000, section 16; RFC 9420, section 2.1.2)
abbrev pub varint : Grammar
varint d b (Number n) = Varint b n
varint d b Empty = ⊥
varint d b (Join v vs) = ⊥

-- k bytes that are spelled by themselves (RFC 8446, section 3.4)
pub record RawBytes (k : ℕ) (b : List ℕ) (v : Tree) : Type 0 where
  pub width : length b ≡ k
  pub bytes : AreBytes b
  pub same : v ≡ number_trees b

abbrev pub array : ℕ → Grammar
array k d b v = RawBytes k b v

-- ---- options (the crate's rule; RFC 9420, section 2.1.1)

-- the byte 0 spells no payload, and the byte 1 with a spelling of the payload after it spells one
abbrev pub option : Grammar → Grammar
option payload d b (Number n) = ⊥
option payload d b Empty = b ≡ 0 ∷ []
option payload d b (Join v Empty) = (s : List ℕ) × (b ≡ 1 ∷ s) × payload d s v
option payload d b (Join v (Number n)) = ⊥
option payload d b (Join v (Join w ws)) = ⊥

-- ---- products (RFC 8446, section 3.6)

-- two spellings in a row
pub record Concat (b : List ℕ) (First Second : List ℕ → Type 0) : Type 0 where
  pub front : List ℕ
  pub rest : List ℕ
  pub whole : b ≡ front ++ rest
  pub first : First front
  pub second : Second rest

-- no bytes, for a value with no parts
abbrev pub nothing : Grammar
nothing d b (Number n) = ⊥
nothing d b Empty = b ≡ []
nothing d b (Join v vs) = ⊥

-- a first part, and then the others
abbrev pub fields : Grammar → Grammar → Grammar
fields first others d b (Number n) = ⊥
fields first others d b Empty = ⊥
fields first others d b (Join v vs) = Concat b (λ s. first d s v) (λ s. others d s vs)

abbrev pub pair : Grammar → Grammar → Grammar
pair first second = fields first (fields second nothing)

abbrev pub triple : Grammar → Grammar → Grammar → Grammar
triple first second third = fields first (fields second (fields third nothing))

-- ---- lists

-- which spellings an element may have: in the reading grammar no empty one (the crate's rule)
abbrev pub Admits : Direction → List ℕ → Type 0
Admits Reading s = 0 < length s
Admits Writing s = Unit {0}

-- the spellings of the elements in a row (RFC 8446, section 3.4)
abbrev pub content : Grammar → Grammar
content element d c (Number n) = ⊥
content element d c Empty = c ≡ []
content element d c (Join v vs) = Concat c (λ s. element d s v × Admits d s) (λ s. content element d s vs)

-- a length field, and after it what it counts, in bytes
pub record Counted (field : List ℕ → ℕ → Type 0) (b : List ℕ) (Inside : List ℕ → Type 0) : Type 0 where
  pub count : List ℕ
  pub inside : List ℕ
  pub whole : b ≡ count ++ inside
  pub counts : field count (length inside)
  pub is_inside : Inside inside

abbrev pub counted : (List ℕ → ℕ → Type 0) → Grammar → Grammar
counted field inside d b v = Counted field b (λ c. inside d c v)

-- n bytes of what may come after a length field
abbrev pub sized : ℕ → Grammar → Grammar
sized n inside d c v = (length c ≡ n) × inside d c v

-- a list after a variable-length length (RFC 9420, section 2.1.2)
abbrev pub list : Grammar → Grammar
list element = counted VectorLength (content element)

-- a list after a length of k bytes (RFC 8446, section 3.4)
abbrev pub fixed_list : ℕ → Grammar → Grammar
fixed_list k element = counted (Digits k) (content element)

-- ---- bytes and texts (the crate's rule)

-- a byte vector's content is its bytes
abbrev pub bytes : Grammar
bytes = list (number 1)

-- a text's content is its UTF-8
abbrev pub utf8 : Grammar
utf8 d c v = content (number 1) d c v × IsUtf8 c

abbrev pub text : Grammar
text = counted VectorLength utf8
