-- What the names in a definition mean, and which bytes a field has (RFC 8446, sections 3.4 and 3.7).
use Rattle.std.specs.Prelude.{ℕ, ◌-◌, ◌^◌, ◌==◌, ◌||◌, ◌&&◌, Bool, true, false, not, Option, Some, None, codes, bytes_eq}
use Rattle.tls_codec_grammar.specs.Format.{Format, array_format, option_format, list_format, fixed_list_format}
use Rattle.tls_codec_grammar.specs.Tree.{Tree}
use Rattle.tls_codec_grammar.specs.Tagged.{no_format}
use Rattle.tls_codec_base.specs.OwnMessages.{bounded_list_format, values_format}
use Rattle.tls_codec_cases.specs.Exactly.{exactly_list_format}
use Rattle.tls_presentation.specs.Definition.{Name, Vector, One, Array, Counted, Variable, Bounded, Constant, Is, Bytes, Field}
use Rattle.tls_presentation.specs.Names.{Key, Lookup}
use Rattle.tls_presentation.specs.Tags.{Tag, width_of, number_in, number_of}

-- ---- what the names in a definition mean

pub record Names : Type 1 where
  -- the bytes of a type, under what its context stands for (section 3.8: a tag that another struct has)
  pub format : Name → Tree → Format
  -- of an enum, a registry, or an integer
  pub tag : Name → Tag
  -- what is in a struct, and which name is meant
  pub lookup : Lookup
  pub is_borrowed : Name → Bool
  -- the struct is bytes that fill what is left
  pub is_filling : Name → Bool
  -- the tag that the bytes of a type depend on, which isn't in it
  pub needs : Name → Option Key
  -- where a tag is in what a value of a type stands for, if it has it
  pub holds : Name → Key → Option (Tree → Tree)

-- ---- fields (sections 3.4 and 3.7)

abbrev is_whole : (least most : ℕ) → Bool
is_whole least most = (least == 0) && (most == 256 ^ width_of most - 1)

-- bytes, which stand for themselves
abbrev is_byte : Name → Bool
is_byte of = bytes_eq of (codes "opaque") || bytes_eq of (codes "uint8")

abbrev pub vector_format : (is_byte : Bool) → Format → Vector → Format
vector_format is_byte element One = element
vector_format true element (Array n) = array_format n
vector_format false element (Array n) = exactly_list_format n element
vector_format is_byte element (Counted path) = no_format
vector_format is_byte element Variable = list_format element
vector_format is_byte element (Bounded least most) = elim (is_whole least most) as (λ b. Format) [ true ↦ fixed_list_format (width_of most) element | false ↦ bounded_list_format (width_of most) least most element ]

abbrev element_format : (is_optional : Bool) → Format → Format
element_format true f = option_format f
element_format false f = f

abbrev pub constant_number : Tag → Constant → ℕ
constant_number tag (Is label) = number_of label tag.values
constant_number tag (Bytes byte more) = number_in byte more

abbrev pub constant_width : Vector → Tag → ℕ
constant_width (Array n) tag = n
constant_width _ tag = tag.width

-- one number alone
abbrev pub constant_format : ℕ → ℕ → Format
constant_format width number = values_format width (λ n. n == number)

abbrev pub field_format : Names → Tree → Field → Format
field_format names c f = elim f.constant as (λ k. Format) [
  | Some k ↦ constant_format (constant_width f.vector (names.tag f.of)) (constant_number (names.tag f.of) k)
  | None ↦ vector_format (is_byte f.of && not f.is_optional) (element_format f.is_optional (names.format f.of c)) f.vector
]
