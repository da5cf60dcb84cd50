-- Numbers and enums (RFC 8446, sections 3.3 and 3.5).
use Rattle.std.specs.Prelude.{ℕ, List, [], ◌∷◌, ◌+◌, ◌*◌, ◌==◌, ◌||◌, Bool, true, false, codes, max, nat_lt}
use Rattle.tls_codec_grammar.specs.Format.{Format, number_format}
use Rattle.tls_codec_grammar.specs.Tree.{Tree, Number, Join}
use Rattle.tls_codec_base.specs.OwnMessages.{values_format}
use Rattle.tls_presentation.specs.Definition.{Label, Word, Numeral, Value, Named, Range, Width}
use Rattle.tls_presentation.specs.Names.{is_label}

-- ---- numbers (section 3.3)

-- the least width that holds a number
abbrev pub width_of : ℕ → ℕ
width_of n = elim (nat_lt n 256) as (λ b. ℕ) [ true ↦ 1 | false ↦ elim (nat_lt n 65536) as (λ b. ℕ) [ true ↦ 2 | false ↦ elim (nat_lt n 16777216) as (λ b. ℕ) [ true ↦ 3 | false ↦ 4 ] ] ]

-- bytes as a number, the most significant first
abbrev pub number_in : (number : ℕ) → List ℕ → ℕ
number_in number [] = number
number_in number (byte ∷ bytes) = number_in (number * 256 + byte) bytes

-- ---- enums (section 3.5)

abbrev pub greatest : List Value → ℕ
greatest [] = 0
greatest (Named label n ∷ values) = max n (greatest values)
greatest (Range label least most ∷ values) = max most (greatest values)
greatest (Width n ∷ values) = max n (greatest values)

-- an enum "will occupy as much space in the byte stream as would its maximal defined ordinal value"
abbrev pub enum_width : List Value → ℕ
enum_width values = width_of (greatest values)

abbrev pub number_or : (default : ℕ) → Label → List Value → ℕ
number_or default label [] = default
number_or default label (Named l n ∷ values) = elim (is_label label l) as (λ b. ℕ) [ true ↦ n | false ↦ number_or default label values ]
number_or default label (_ ∷ values) = number_or default label values

-- a number stands for itself, unless a value is called so
abbrev pub number_of : Label → List Value → ℕ
number_of (Word name) values = number_or 0 (Word name) values
number_of (Numeral n) values = number_or n (Numeral n) values

abbrev pub is_reserved : Label → Bool
is_reserved label = is_label label (Word (codes "reserved")) || is_label label (Word (codes "RESERVED"))

-- ranges, the number without a name, and what is reserved are no values
abbrev pub numbers_of : List Value → List ℕ
numbers_of [] = []
numbers_of (Named label n ∷ values) = elim (is_reserved label) as (λ b. List ℕ) [ true ↦ numbers_of values | false ↦ n ∷ numbers_of values ]
numbers_of (_ ∷ values) = numbers_of values

abbrev pub is_one_of : List ℕ → ℕ → Bool
is_one_of [] n = false
is_one_of (a ∷ []) n = n == a
is_one_of (a ∷ b ∷ bs) n = (n == a) || is_one_of (b ∷ bs) n

-- a tag's width, its values, and whether it is one of these alone
pub record Tag : Type 0 where
  pub width : ℕ
  pub values : List Value
  pub is_closed : Bool

abbrev pub tag_format : Tag → Format
tag_format tag = elim tag.is_closed as (λ b. Format) [ true ↦ values_format tag.width (is_one_of (numbers_of tag.values)) | false ↦ number_format tag.width ]

-- the number of a tag, by what its value stands for
abbrev pub selected_value : Tree → ℕ
selected_value (Join (Number n) vs) = n
selected_value _ = 0

abbrev pub selected_number : Tree → ℕ
selected_number (Number n) = n
selected_number _ = 0

abbrev pub selected : Tag → Tree → ℕ
selected tag c = elim tag.is_closed as (λ b. ℕ) [ true ↦ selected_value c | false ↦ selected_number c ]
