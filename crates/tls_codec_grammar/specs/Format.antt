-- What contracts say of a type: its format, and the formats of the types that have parameters.
use Rattle.std.specs.Prelude.{◌≡◌, ◌⊎◌, ◌&&◌, ℕ, Bool, true, false}
use Rattle.tls_codec_wire.specs.declared.error.Error.{Error}
use Rattle.tls_codec_wire.specs.declared.error.Error.TheVariants.{InvalidVectorLength}
use Rattle.tls_codec_grammar.specs.Tree.{Tree, Empty, Join}
use Rattle.tls_codec_grammar.specs.Field.{Field, fixed_field, variable_field}
use Rattle.tls_codec_grammar.specs.Grammar.{Grammar, number, varint, array, option, nothing, fields, content, counted, sized, utf8}
use Rattle.tls_codec_grammar.specs.Announced.{option_length, nothing_length, fields_length, content_length, content_sum, counted_length, varint_length}

pub record Format : Type 1 where
  -- which bytes spell which values
  pub spells : Grammar
  -- the announced length of a value, in bytes
  pub announced : Tree → ℕ
  -- decoders take no memory
  pub lean : Bool
  -- which errors an encoder names for a value, which has no spelling then
  pub refuses : Tree → Error → Type 0
  -- which values are refused before anything is sent
  pub out_of_bounds : Tree → Type 0

-- ---- atoms: each value of such a type has a spelling

abbrev pub atom : Grammar → (Tree → ℕ) → Format
atom spells announced = record { spells = spells; announced = announced; lean = true; refuses = λ v e. ⊥; out_of_bounds = λ v. ⊥ }

abbrev pub number_format : ℕ → Format
number_format k = atom (number k) (λ v. k)

abbrev pub varint_format : Format
varint_format = atom varint varint_length

abbrev pub array_format : ℕ → Format
array_format k = atom (array k) (λ v. k)

-- the same spellings, for which decoders take memory
abbrev pub with_memory : Format → Format
with_memory f = record f { lean = false }

-- ---- options and products: a part's errors are passed on

abbrev pub option_refuses : (Tree → Error → Type 0) → Tree → Error → Type 0
option_refuses payload (Join v Empty) e = payload v e
option_refuses payload _ e = ⊥

abbrev pub option_format : Format → Format
option_format payload = record {
  spells = option payload.spells;
  announced = option_length payload.announced;
  lean = payload.lean;
  refuses = option_refuses payload.refuses;
  out_of_bounds = λ v. ⊥;
}

abbrev pub nothing_format : Format
nothing_format = atom nothing nothing_length

abbrev pub fields_refuses : (first others : Tree → Error → Type 0) → Tree → Error → Type 0
fields_refuses first others (Join v vs) e = first v e ⊎ others vs e
fields_refuses first others _ e = ⊥

abbrev pub fields_format : (first others : Format) → Format
fields_format first others = record {
  spells = fields first.spells others.spells;
  announced = fields_length first.announced others.announced;
  lean = first.lean && others.lean;
  refuses = fields_refuses first.refuses others.refuses;
  out_of_bounds = λ v. ⊥;
}

abbrev pub pair_format : (first second : Format) → Format
pair_format first second = fields_format first (fields_format second nothing_format)

abbrev pub triple_format : (first second third : Format) → Format
triple_format first second third = fields_format first (fields_format second (fields_format third nothing_format))

-- ---- what comes after a length field

-- an element's errors are passed on
abbrev pub content_refuses : (Tree → Error → Type 0) → Tree → Error → Type 0
content_refuses element (Join v vs) e = element v e ⊎ content_refuses element vs e
content_refuses element _ e = ⊥

abbrev pub content_format : Format → Format
content_format element = record {
  spells = content element.spells;
  announced = content_length element.announced;
  lean = false;
  refuses = content_refuses element.refuses;
  out_of_bounds = λ v. ⊥;
}

abbrev pub utf8_format : Format
utf8_format = record (content_format (number_format 1)) { spells = utf8 }

-- what a list engine reads, to which the length is given
abbrev pub sized_format : ℕ → Format → Format
sized_format n inside = record inside { spells = sized n inside.spells }

-- ---- lists, bytes and texts

-- what a length field counts, whose announced lengths add up to this: `InvalidVectorLength` if the field doesn't hold the sum
abbrev pub counted_format : Field → (Tree → ℕ) → Format → Format
counted_format field sum inside = record {
  spells = counted field.spells inside.spells;
  announced = counted_length field.width inside.announced;
  lean = false;
  refuses = λ v e. ((e ≡ InvalidVectorLength) × (¬ field.holds (sum v))) ⊎ inside.refuses v e;
  out_of_bounds = λ v. ¬ field.holds (sum v);
}

-- elements after any length field
abbrev pub counted_list_format : Field → Format → Format
counted_list_format field element = counted_format field (content_sum element.announced) (content_format element)

abbrev pub list_format : Format → Format
list_format element = counted_list_format variable_field element

abbrev pub fixed_list_format : ℕ → Format → Format
fixed_list_format k element = counted_list_format (fixed_field k) element

-- bytes after any length field
abbrev pub counted_bytes_format : Field → Format
counted_bytes_format field = counted_list_format field (number_format 1)

abbrev pub bytes_format : Format
bytes_format = counted_bytes_format variable_field

abbrev pub text_format : Format
text_format = counted_format variable_field (content_sum (λ v. 1)) utf8_format
