-- The signs that tokens are, and the signs that what is read of them stands for.
use Rattle.std.specs.Prelude.{◌≡◌, ℕ, List, [], ◌∷◌, length, Bool, true, false, IsFalse, Option, Some, None, Result, IfOk, string_bytes, codes}
use Rattle.tlsgen_syntax.specs.declared.token.Mark.{Mark}
use Rattle.tlsgen_syntax.specs.declared.token.Mark.TheVariants as marks
use Rattle.tlsgen_syntax.specs.declared.token.TokenKind.{TokenKind}
use Rattle.tlsgen_syntax.specs.declared.token.TokenKind.TheVariants as kinds
use Rattle.tlsgen_syntax.specs.declared.token.Token.{Token}
use Rattle.tlsgen_syntax.specs.declared.tokens.Tokens.{Tokens}
use Rattle.tlsgen_syntax.specs.declared.syntax.Name.{Name}
use Rattle.tlsgen_syntax.specs.declared.syntax.Number.{Number}
use Rattle.tlsgen_syntax.specs.declared.syntax.File.{File}
use Rattle.tlsgen_syntax.specs.declared.syntax.Item.{Item}
use Rattle.tlsgen_syntax.specs.declared.syntax.Item.TheVariants as items
use Rattle.tlsgen_syntax.specs.declared.syntax.Enum.{Enum}
use Rattle.tlsgen_syntax.specs.declared.syntax.Value.{Value}
use Rattle.tlsgen_syntax.specs.declared.syntax.Struct.{Struct}
use Rattle.tlsgen_syntax.specs.declared.syntax.Part.{Part}
use Rattle.tlsgen_syntax.specs.declared.syntax.Part.TheVariants as parts
use Rattle.tlsgen_syntax.specs.declared.syntax.Field.{Field}
use Rattle.tlsgen_syntax.specs.declared.syntax.Constant.{Constant}
use Rattle.tlsgen_syntax.specs.declared.syntax.Constant.TheVariants as constants
use Rattle.tlsgen_syntax.specs.declared.syntax.Vector.{Vector}
use Rattle.tlsgen_syntax.specs.declared.syntax.Vector.TheVariants as vectors
use Rattle.tlsgen_syntax.specs.declared.syntax.Select.{Select}
use Rattle.tlsgen_syntax.specs.declared.syntax.Case.{Case}
use Rattle.tlsgen_syntax.specs.declared.syntax.Label.{Label}
use Rattle.tlsgen_syntax.specs.declared.syntax.Label.TheVariants as labels
use Rattle.tlsgen_syntax.specs.declared.syntax.Note.{Note}
use Rattle.tlsgen_syntax.specs.declared.syntax.Said.{Said}
use Rattle.tlsgen_syntax.specs.declared.syntax.Said.TheVariants as saids
use Rattle.tlsgen_syntax.specs.declared.source.Source.{Source}
use Rattle.tlsgen_syntax.specs.declared.source.Definition.{Definition}
use Rattle.tlsgen_syntax.specs.declared.source.Definition.TheVariants as definitions
use Rattle.tlsgen_syntax.specs.declared.source.SourceEnum.{SourceEnum}
use Rattle.tlsgen_syntax.specs.declared.source.Numbers.{Numbers}
use Rattle.tlsgen_syntax.specs.declared.source.SourceValue.{SourceValue}
use Rattle.tlsgen_syntax.specs.declared.source.ValueName.{ValueName}
use Rattle.tlsgen_syntax.specs.declared.source.ValueName.TheVariants as value_names
use Rattle.tlsgen_syntax.specs.declared.source.SourceStruct.{SourceStruct}
use Rattle.tlsgen_syntax.specs.declared.source.StructKind.{StructKind}
use Rattle.tlsgen_syntax.specs.declared.source.StructKind.TheVariants as struct_kinds
use Rattle.tlsgen_syntax.specs.declared.source.SourcePart.{SourcePart}
use Rattle.tlsgen_syntax.specs.declared.source.SourcePart.TheVariants as source_parts
use Rattle.tlsgen_syntax.specs.declared.source.Signed.{Signed}
use Rattle.tlsgen_syntax.specs.declared.source.InPlace.{InPlace}
use Rattle.tlsgen_syntax.specs.declared.source.TypeInPlace.{TypeInPlace}
use Rattle.tlsgen_syntax.specs.declared.source.TypeInPlace.TheVariants as types_in_place

-- how a mark is written
abbrev pub mark_text : Mark → List ℕ
mark_text marks.Case = codes "case"
mark_text marks.DigitallySigned = codes "digitally-signed"
mark_text marks.Enum = codes "enum"
mark_text marks.Borrowed = codes "borrowed"
mark_text marks.Open = codes "open"
mark_text marks.Optional = codes "optional"
mark_text marks.Select = codes "select"
mark_text marks.Struct = codes "struct"
mark_text marks.OpeningBrace = codes "{"
mark_text marks.ClosingBrace = codes "}"
mark_text marks.OpeningParenthesis = codes "("
mark_text marks.ClosingParenthesis = codes ")"
mark_text marks.OpeningBracket = codes "["
mark_text marks.ClosingBracket = codes "]"
mark_text marks.OpeningAngle = codes "<"
mark_text marks.ClosingAngle = codes ">"
mark_text marks.Comma = codes ","
mark_text marks.Semicolon = codes ";"
mark_text marks.Colon = codes ":"
mark_text marks.Equals = codes "="
mark_text marks.Dot = codes "."
mark_text marks.Dots = codes ".."

-- a token without its place: a word by its bytes, a number by its value, or a mark
pub data Sign : Type 0 where
  word : List ℕ → Sign
  number : ℕ → Sign
  mark : Mark → Sign

abbrev pub sign_of : TokenKind → Sign
sign_of (kinds.Word text) = word (string_bytes text)
sign_of (kinds.Number value) = number value
sign_of (kinds.Mark m) = mark m

abbrev pub signs : List Token → List Sign
signs [] = []
signs (token ∷ tokens) = sign_of token.kind ∷ signs tokens

-- the signs of the tokens that are left, and how many those are
abbrev pub signs_left : Tokens → List Sign
signs_left tokens = signs tokens.left.now

abbrev pub count_left : Tokens → ℕ
count_left tokens = length tokens.left.now

-- what was read, if it was, is what the tokens that are gone say
abbrev pub Reads : {A E : Type 0} → (A → List Sign → List Sign) → (before after : Tokens) → Result A E → Type 0
Reads one before after result = IfOk result (λ a. signs_left before ≡ one a (signs_left after))

-- ---- what is read, as signs before the rest

-- each of a list, one after another
abbrev pub each_then : {A : Type 0} → (A → List Sign → List Sign) → List A → List Sign → List Sign
each_then one [] rest = rest
each_then one (x ∷ xs) rest = one x (each_then one xs rest)

-- each of a list, with a mark between two
abbrev pub separated_then : {A : Type 0} → Mark → (A → List Sign → List Sign) → List A → List Sign → List Sign
separated_then m one [] rest = rest
separated_then m one (x ∷ xs) rest = one x (each_then (λ y others. mark m ∷ one y others) xs rest)

-- the mark, if the flag is set
abbrev pub flag_then : Mark → Bool → List Sign → List Sign
flag_then m true rest = mark m ∷ rest
flag_then m false rest = rest

-- a word, if the flag is set
abbrev pub word_then : List ℕ → Bool → List Sign → List Sign
word_then text true rest = word text ∷ rest
word_then text false rest = rest

abbrev pub name_then : Name → List Sign → List Sign
name_then name rest = word (string_bytes name.text) ∷ rest

abbrev pub optional_name_then : Option Name → List Sign → List Sign
optional_name_then None rest = rest
optional_name_then (Some name) rest = name_then name rest

abbrev pub number_then : Number → List Sign → List Sign
number_then n rest = number n.value ∷ rest

-- [ .. NUMBER ]
abbrev pub range_end_then : Option Number → List Sign → List Sign
range_end_then None rest = rest
range_end_then (Some n) rest = mark marks.Dots ∷ number_then n rest

-- [NAME] ( NUMBER [ .. NUMBER ] )
abbrev pub value_then : Value → List Sign → List Sign
value_then value rest =
    optional_name_then value.name
    (mark marks.OpeningParenthesis ∷
    number_then value.number (range_end_then value.last (mark marks.ClosingParenthesis ∷ rest)))

-- [open] enum { values } NAME ;
abbrev pub enum_then : Enum → List Sign → List Sign
enum_then e rest =
    flag_then marks.Open e.is_open
    (mark marks.Enum ∷ mark marks.OpeningBrace ∷
    separated_then marks.Comma value_then e.values.items
    (mark marks.ClosingBrace ∷ name_then e.name (mark marks.Semicolon ∷ rest)))

-- NAME, or < NAME > after optional
abbrev pub type_then : Bool → Name → List Sign → List Sign
type_then true of rest = mark marks.OpeningAngle ∷ name_then of (mark marks.ClosingAngle ∷ rest)
type_then false of rest = name_then of rest

-- nothing, [ NUMBER ], [ path ], < V > or < NUMBER .. NUMBER >
abbrev pub vector_then : Vector → List Sign → List Sign
vector_then vectors.One rest = rest
vector_then (vectors.Array len) rest = mark marks.OpeningBracket ∷ number_then len (mark marks.ClosingBracket ∷ rest)
vector_then (vectors.Counted path) rest =
    mark marks.OpeningBracket ∷ separated_then marks.Dot name_then path.items (mark marks.ClosingBracket ∷ rest)
vector_then vectors.Variable rest = mark marks.OpeningAngle ∷ word (codes "V") ∷ mark marks.ClosingAngle ∷ rest
vector_then (vectors.Bounded floor ceiling) rest =
    mark marks.OpeningAngle ∷ number_then floor (mark marks.Dots ∷ number_then ceiling (mark marks.ClosingAngle ∷ rest))

-- NAME, NUMBER or { numbers }
abbrev pub constant_value_then : Constant → List Sign → List Sign
constant_value_then (constants.Named name) rest = name_then name rest
constant_value_then (constants.Number n) rest = number_then n rest
constant_value_then (constants.Elements ns) rest =
    mark marks.OpeningBrace ∷ separated_then marks.Comma number_then ns.items (mark marks.ClosingBrace ∷ rest)

-- [ = value ]
abbrev pub constant_then : Option Constant → List Sign → List Sign
constant_then None rest = rest
constant_then (Some value) rest = mark marks.Equals ∷ constant_value_then value rest

-- [optional] type
abbrev pub typed_then : Bool → Name → List Sign → List Sign
typed_then is_optional of rest = flag_then marks.Optional is_optional (type_then is_optional of rest)

-- a field without a name of its own is called as its type
abbrev pub IsCalled : Field → Type 0
IsCalled f = IsFalse f.is_named → string_bytes f.name.text ≡ string_bytes f.of.text

-- [optional] type NAME vector constant ;
abbrev pub field_then : Field → List Sign → List Sign
field_then f rest =
    typed_then f.is_optional f.of
    (name_then f.name (vector_then f.vector (constant_then f.constant (mark marks.Semicolon ∷ rest))))

-- a field of a case, whose name may be that of its type: [optional] type ;
abbrev pub field_if_named_then : Bool → Field → List Sign → List Sign
field_if_named_then true f rest = field_then f rest
field_if_named_then false f rest = typed_then f.is_optional f.of (mark marks.Semicolon ∷ rest)

abbrev pub case_field_then : Field → List Sign → List Sign
case_field_then f rest = field_if_named_then f.is_named f rest

abbrev pub label_value_then : Label → List Sign → List Sign
label_value_then (labels.Name name) rest = name_then name rest
label_value_then (labels.Number n) rest = number_then n rest

-- case label :
abbrev pub label_then : Label → List Sign → List Sign
label_then label rest = mark marks.Case ∷ label_value_then label (mark marks.Colon ∷ rest)

-- struct { } ; or fields
abbrev pub case_fields_then : List Field → List Sign → List Sign
case_fields_then [] rest =
    mark marks.Struct ∷ mark marks.OpeningBrace ∷ mark marks.ClosingBrace ∷ mark marks.Semicolon ∷ rest
case_fields_then (f ∷ fs) rest = case_field_then f (each_then case_field_then fs rest)

abbrev pub case_then : Case → List Sign → List Sign
case_then c rest = each_then label_then c.labels.items (case_fields_then c.fields.items rest)

-- select ( path ) { cases } [NAME] [;]
abbrev pub select_then : Select → List Sign → List Sign
select_then s rest =
    mark marks.Select ∷ mark marks.OpeningParenthesis ∷
    separated_then marks.Dot name_then s.path.items
    (mark marks.ClosingParenthesis ∷ mark marks.OpeningBrace ∷
    each_then case_then s.cases.items
    (mark marks.ClosingBrace ∷ optional_name_then s.name (flag_then marks.Semicolon s.ends_in_semicolon rest)))

abbrev pub part_then : Part → List Sign → List Sign
part_then (parts.Field f) rest = field_then f rest
part_then (parts.Select s) rest = select_then s rest

-- ---- what is written

-- [NAME | NUMBER]
abbrev pub value_name_then : Option ValueName → List Sign → List Sign
value_name_then None rest = rest
value_name_then (Some (value_names.Word name)) rest = name_then name rest
value_name_then (Some (value_names.Number n)) rest = number_then n rest

-- [NAME | NUMBER] ( NUMBER [ .. NUMBER ] )
abbrev pub source_value_then : SourceValue → List Sign → List Sign
source_value_then value rest =
    value_name_then value.name
    (mark marks.OpeningParenthesis ∷
    number_then value.number (range_end_then value.last (mark marks.ClosingParenthesis ∷ rest)))

-- [open] enum { values }
abbrev pub numbers_then : Numbers → List Sign → List Sign
numbers_then numbers rest =
    flag_then marks.Open numbers.is_open
    (mark marks.Enum ∷ mark marks.OpeningBrace ∷
    separated_then marks.Comma source_value_then numbers.values.items (mark marks.ClosingBrace ∷ rest))

-- [open] enum { values } NAME ;
abbrev pub source_enum_then : SourceEnum → List Sign → List Sign
source_enum_then e rest = numbers_then e.numbers (name_then e.name (mark marks.Semicolon ∷ rest))

-- [open] enum { values } or struct { parts }
abbrev pub type_in_place_then : TypeInPlace → List Sign → List Sign
type_in_place_then (types_in_place.Enum numbers) rest = numbers_then numbers rest
type_in_place_then (types_in_place.Struct ps) rest =
    mark marks.Struct ∷ mark marks.OpeningBrace ∷ each_then part_then ps.items (mark marks.ClosingBrace ∷ rest)

-- type NAME vector ;
abbrev pub in_place_then : InPlace → List Sign → List Sign
in_place_then f rest =
    type_in_place_then f.of (name_then f.name (vector_then f.vector (mark marks.Semicolon ∷ rest)))

-- digitally-signed struct { parts } [NAME] ;
abbrev pub signed_then : Signed → List Sign → List Sign
signed_then s rest =
    mark marks.DigitallySigned ∷ mark marks.Struct ∷ mark marks.OpeningBrace ∷
    each_then part_then s.parts.items
    (mark marks.ClosingBrace ∷ optional_name_then s.name (mark marks.Semicolon ∷ rest))

abbrev pub source_part_then : SourcePart → List Sign → List Sign
source_part_then (source_parts.Sent p) rest = part_then p rest
source_part_then (source_parts.Signed s) rest = signed_then s rest
source_part_then (source_parts.InPlace f) rest = in_place_then f rest

-- [borrowed | digitally-signed]
abbrev pub kind_then : StructKind → List Sign → List Sign
kind_then struct_kinds.Sent rest = rest
kind_then struct_kinds.Borrowed rest = mark marks.Borrowed ∷ rest
kind_then struct_kinds.Signed rest = mark marks.DigitallySigned ∷ rest

-- [borrowed | digitally-signed] struct { parts, signatures and types in place } NAME ;
abbrev pub source_struct_then : SourceStruct → List Sign → List Sign
source_struct_then s rest =
    kind_then s.kind
    (mark marks.Struct ∷ mark marks.OpeningBrace ∷
    each_then source_part_then s.parts.items
    (mark marks.ClosingBrace ∷ name_then s.name (mark marks.Semicolon ∷ rest)))

abbrev pub definition_then : Definition → List Sign → List Sign
definition_then (definitions.Enum e) rest = source_enum_then e rest
definition_then (definitions.Struct s) rest = source_struct_then s rest
definition_then (definitions.Alias f) rest = field_then f rest

-- the signs of a whole text
abbrev pub source_signs : Source → List Sign
source_signs source = each_then definition_then source.definitions.items []

-- ---- what is signed and types in place apart

-- [borrowed] struct { parts } NAME ;
abbrev pub struct_then : Struct → List Sign → List Sign
struct_then s rest =
    flag_then marks.Borrowed s.is_borrowed
    (mark marks.Struct ∷ mark marks.OpeningBrace ∷
    each_then part_then s.parts.items
    (mark marks.ClosingBrace ∷ name_then s.name (mark marks.Semicolon ∷ rest)))

abbrev pub item_then : Item → List Sign → List Sign
item_then (items.Enum e) rest = enum_then e rest
item_then (items.Struct s) rest = struct_then s rest
item_then (items.Alias f) rest = field_then f rest

-- the signs of a whole file
abbrev pub file_signs : File → List Sign
file_signs file = each_then item_then file.items.items []

-- ---- notes

-- = NUMBER, = NAME, counts rest, fills rest, fills rest with zeros, ends NAME, called NAME, is open, closed or borrowed, or left out
abbrev pub said_then : Said → List Sign → List Sign
said_then (saids.Number n) rest = mark marks.Equals ∷ number_then n rest
said_then (saids.Named name) rest = mark marks.Equals ∷ name_then name rest
said_then saids.Counts rest = word (codes "counts") ∷ word (codes "rest") ∷ rest
said_then saids.Fills rest = word (codes "fills") ∷ word (codes "rest") ∷ rest
said_then saids.Pads rest = word (codes "fills") ∷ word (codes "rest") ∷ word (codes "with") ∷ word (codes "zeros") ∷ rest
said_then (saids.Ends name) rest = word (codes "ends") ∷ name_then name rest
said_then (saids.Called name) rest = word (codes "called") ∷ name_then name rest
said_then saids.Open rest = word (codes "is") ∷ mark marks.Open ∷ rest
said_then saids.Borrowed rest = word (codes "is") ∷ mark marks.Borrowed ∷ rest
said_then saids.Closed rest = word (codes "is") ∷ word (codes "closed") ∷ rest
said_then saids.LeftOut rest = word (codes "left") ∷ word (codes "out") ∷ rest

-- path said ;
abbrev pub note_then : Note → List Sign → List Sign
note_then note rest =
    separated_then marks.Dot name_then note.path.items (said_then note.said (mark marks.Semicolon ∷ rest))

-- the signs of all notes
abbrev pub notes_signs : List Note → List Sign
notes_signs notes = each_then note_then notes []
