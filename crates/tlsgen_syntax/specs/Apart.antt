-- What a text says with what is signed, and each type in place, apart: a definition of its own, and in its place a signature or
-- the name of the type.
use Rattle.std.specs.Prelude.{List, ℕ, [], ◌∷◌, ◌++◌, ◌==◌, Bool, true, false, cond, Option, Some, None, string_bytes, codes, if◌then◌else◌}
use Rattle.std.specs.Char.{to_ascii_uppercase}
use Rattle.std.specs.Fmt.{decimal}
use Rattle.std.specs.Str.{chars, encode_utf8_all}
use Rattle.tlsgen_syntax.specs.declared.token.Mark.TheVariants as marks
use Rattle.tlsgen_syntax.specs.declared.syntax.Name.{Name}
use Rattle.tlsgen_syntax.specs.declared.source.Source.{Source}
use Rattle.tlsgen_syntax.specs.declared.source.Definition.{Definition}
use Rattle.tlsgen_syntax.specs.declared.source.Definition.TheVariants as definitions
use Rattle.tlsgen_syntax.specs.declared.source.Numbers.{Numbers}
use Rattle.tlsgen_syntax.specs.declared.source.SourceValue.{SourceValue}
use Rattle.tlsgen_syntax.specs.declared.source.ValueName.{ValueName}
use Rattle.tlsgen_syntax.specs.declared.source.ValueName.TheVariants as value_names
use Rattle.tlsgen_syntax.specs.declared.source.SourceStruct.{SourceStruct}
use Rattle.tlsgen_syntax.specs.declared.source.StructKind.{StructKind}
use Rattle.tlsgen_syntax.specs.declared.source.StructKind.TheVariants as struct_kinds
use Rattle.tlsgen_syntax.specs.declared.source.SourcePart.{SourcePart}
use Rattle.tlsgen_syntax.specs.declared.source.SourcePart.TheVariants as source_parts
use Rattle.tlsgen_syntax.specs.declared.source.Signed.{Signed}
use Rattle.tlsgen_syntax.specs.declared.source.TypeInPlace.{TypeInPlace}
use Rattle.tlsgen_syntax.specs.declared.source.TypeInPlace.TheVariants as types_in_place
use Rattle.tlsgen_syntax.specs.Signs.{Sign, word, mark, each_then, separated_then, flag_then, name_then, number_then, range_end_then, vector_then, part_then, field_then}

-- what a value is called: a number by its decimal digits
abbrev pub value_word : ValueName → List ℕ
value_word (value_names.Word name) = string_bytes name.text
value_word (value_names.Number n) = decimal n.value

abbrev pub value_word_then : Option ValueName → List Sign → List Sign
value_word_then None rest = rest
value_word_then (Some name) rest = word (value_word name) ∷ rest

-- [NAME] ( NUMBER [ .. NUMBER ] )
abbrev pub apart_value_then : SourceValue → List Sign → List Sign
apart_value_then value rest =
    value_word_then value.name
    (mark marks.OpeningParenthesis ∷
    number_then value.number (range_end_then value.last (mark marks.ClosingParenthesis ∷ rest)))

-- [open] enum { values } NAME ;
abbrev pub apart_enum_then : Numbers → List ℕ → List Sign → List Sign
apart_enum_then numbers name rest =
    flag_then marks.Open numbers.is_open
    (mark marks.Enum ∷ mark marks.OpeningBrace ∷
    separated_then marks.Comma apart_value_then numbers.values.items
    (mark marks.ClosingBrace ∷ word name ∷ mark marks.Semicolon ∷ rest))

-- each word between low lines with a capital first, of characters; and whether a word begins with the first of them
abbrev pub in_capitals : Bool → List ℕ → List ℕ
in_capitals begins [] = []
in_capitals begins (c ∷ cs) =
    if c == 95 then in_capitals true cs else cond begins (to_ascii_uppercase c) c ∷ in_capitals false cs

-- what the type of a field is called, if it is in place: OuterInner for a field inner of Outer
abbrev pub type_word : Name → Name → List ℕ
type_word outer field = string_bytes outer.text ++ encode_utf8_all (in_capitals true (chars (string_bytes field.text)))

-- [open] enum { values } NAME ; or struct { parts } NAME ;
abbrev pub apart_type_then : TypeInPlace → List ℕ → List Sign → List Sign
apart_type_then (types_in_place.Enum numbers) name rest = apart_enum_then numbers name rest
apart_type_then (types_in_place.Struct parts) name rest =
    mark marks.Struct ∷ mark marks.OpeningBrace ∷
    each_then part_then parts.items (mark marks.ClosingBrace ∷ word name ∷ mark marks.Semicolon ∷ rest)

-- struct { parts } OUTERTBS ;
abbrev pub signed_struct_then : Name → Signed → List Sign → List Sign
signed_struct_then outer s rest =
    mark marks.Struct ∷ mark marks.OpeningBrace ∷
    each_then part_then s.parts.items
    (mark marks.ClosingBrace ∷ word (string_bytes outer.text ++ codes "TBS") ∷ mark marks.Semicolon ∷ rest)

-- what comes before the struct of a part: what is signed, or the type in place
abbrev pub before_then : Name → SourcePart → List Sign → List Sign
before_then outer (source_parts.Sent p) rest = rest
before_then outer (source_parts.Signed s) rest = signed_struct_then outer s rest
before_then outer (source_parts.InPlace f) rest = apart_type_then f.of (type_word outer f.name) rest

-- NAME, or signature
abbrev pub signature_name_then : Option Name → List Sign → List Sign
signature_name_then None rest = word (codes "signature") ∷ rest
signature_name_then (Some name) rest = name_then name rest

-- of what is signed, DigitallySigned NAME ; of a type in place, its name and NAME vector ;
abbrev pub sent_part_then : Name → SourcePart → List Sign → List Sign
sent_part_then outer (source_parts.Sent p) rest = part_then p rest
sent_part_then outer (source_parts.Signed s) rest =
    word (codes "DigitallySigned") ∷ signature_name_then s.name (mark marks.Semicolon ∷ rest)
sent_part_then outer (source_parts.InPlace f) rest =
    word (type_word outer f.name) ∷ name_then f.name (vector_then f.vector (mark marks.Semicolon ∷ rest))

-- [borrowed]
abbrev pub borrowed_then : StructKind → List Sign → List Sign
borrowed_then struct_kinds.Sent rest = rest
borrowed_then struct_kinds.Borrowed rest = mark marks.Borrowed ∷ rest
borrowed_then struct_kinds.Signed rest = rest

-- what is signed and types in place, and [borrowed] struct { parts } NAME ;
abbrev pub apart_struct_then : SourceStruct → List Sign → List Sign
apart_struct_then s rest =
    each_then (before_then s.name) s.parts.items
    (borrowed_then s.kind
    (mark marks.Struct ∷ mark marks.OpeningBrace ∷
    each_then (sent_part_then s.name) s.parts.items
    (mark marks.ClosingBrace ∷ name_then s.name (mark marks.Semicolon ∷ rest))))

abbrev pub apart_then : Definition → List Sign → List Sign
apart_then (definitions.Enum e) rest = apart_enum_then e.numbers (string_bytes e.name.text) rest
apart_then (definitions.Struct s) rest = apart_struct_then s rest
apart_then (definitions.Alias f) rest = field_then f rest

-- the signs of a whole text
abbrev pub apart_signs : Source → List Sign
apart_signs source = each_then apart_then source.definitions.items []
