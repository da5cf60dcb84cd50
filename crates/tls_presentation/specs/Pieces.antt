-- What is in a struct, one after another (RFC 8446, sections 3.6 and 3.8): fields, and a tag with
-- its selects.
use Rattle.std.specs.Prelude.{ℕ, zero, suc, List, [], ◌∷◌, ◌++◌, ◌+◌, ◌==◌, ◌&&◌, Bool, true, false, not, Option, Some, None, length, take, map, nat_lt, bytes_eq}
use Rattle.tls_codec_grammar.specs.Format.{Format}
use Rattle.tls_codec_grammar.specs.Tree.{Tree, Empty, Join}
use Rattle.tls_codec_grammar.specs.Contexts.{chosen_format, present_format}
use Rattle.tls_codec_grammar.specs.Tagged.{Variants, no_variant, variant, tagged_format}
use Rattle.tls_codec_base.specs.OwnMessages.{fixed_bytes_format}
use Rattle.tls_codec_cases.specs.Enclosed.{fixed_enclosed_format}
use Rattle.tls_presentation.specs.Definition.{Constant, Name, Label, Vector, One, Counted, Field, Case, Ending, Called, Select, Item, Plain, Choice, Note, IsCalled}
use Rattle.tls_presentation.specs.Names.{Key, key_of, is_key, last, part_of, has_label, field_in, field_named, is_on, tag_type, counts, fills, equals}
use Rattle.tls_presentation.specs.Tags.{Tag, number_of, is_one_of, selected}
use Rattle.tls_presentation.specs.Rows.{row, case_row, one_of}
use Rattle.tls_presentation.specs.Fields.{constant_number, constant_width, Names, field_format, constant_format}

-- ---- structs (section 3.6) and selects (section 3.8)

-- what is in a struct, one after another
pub record Piece : Type 1 where
  pub name : Name
  pub format : Tree → Format
  pub is_borrowed : Bool
  pub needs : Option Key
  pub holds : Key → Option (Tree → Tree)

-- a struct, with what is known at its place
pub record Site : Type 1 where
  pub names : Names
  pub notes : List Note
  pub struct : Name
  pub items : List Item

abbrev is_single : Field → Vector → Bool
is_single f One = not f.is_optional
is_single f _ = false

abbrev held_in : Bool → Bool → Option (Tree → Tree) → Option (Tree → Tree)
held_in true is_single inner = Some (λ v. v)
held_in false true inner = inner
held_in false false inner = None

abbrev pub field_piece : Site → Field → Piece
field_piece site f = record {
  name = f.name;
  format = λ c. field_format site.names c f;
  is_borrowed = site.names.is_borrowed f.of;
  needs = site.names.needs f.of;
  holds = λ key. held_in (is_key key site.struct f) (is_single f f.vector) (site.names.holds f.of key);
}

-- one that depends on nothing
abbrev free_piece : Name → (is_borrowed : Bool) → (Tree → Format) → Piece
free_piece name is_borrowed format = record { name = name; format = format; is_borrowed = is_borrowed; needs = None; holds = λ key. None }

abbrev pub is_length : Site → Field → Bool
is_length site f = counts site.notes (part_of site.struct f.name)

-- how many items there are up to the last select on a tag
abbrev span : Field → (at found : ℕ) → List Item → ℕ
span tag at found [] = found
span tag at found (Plain f ∷ items) = span tag (at + 1) found items
span tag at found (Choice s ∷ items) = elim (is_on tag s) as (λ b. ℕ) [ true ↦ span tag (at + 1) (at + 1) items | false ↦ span tag (at + 1) found items ]

abbrev pub fields_of : Label → List Case → List Field
fields_of label [] = []
fields_of label (c ∷ cs) = elim (has_label label (c.label ∷ c.more)) as (λ b. List Field) [ true ↦ map field_in c.fields | false ↦ fields_of label cs ]

-- The fields for one value of a tag: those of its selects' cases, and those between. A length of what follows is no field.
abbrev pub fields_for : Site → Label → List Item → List Field
fields_for site label [] = []
fields_for site label (Plain f ∷ items) = elim (is_length site f) as (λ b. List Field) [ true ↦ fields_for site label items | false ↦ f ∷ fields_for site label items ]
fields_for site label (Choice s ∷ items) = fields_of label s.cases ++ fields_for site label items

abbrev pub labels_of : List Case → List Label
labels_of [] = []
labels_of (c ∷ cs) = c.label ∷ c.more ++ labels_of cs

abbrev pub first_labels : List Item → List Label
first_labels [] = []
first_labels (Plain f ∷ items) = first_labels items
first_labels (Choice s ∷ items) = labels_of s.cases

abbrev pub length_width : Site → List Item → Option ℕ
length_width site [] = None
length_width site (Choice s ∷ items) = length_width site items
length_width site (Plain f ∷ items) = elim (is_length site f) as (λ b. Option ℕ) [ true ↦ Some (site.names.tag f.of).width | false ↦ length_width site items ]

abbrev pub formats_for : Site → Tree → List Field → List Format
formats_for site c fields = map (field_format site.names c) fields

-- after a tag: the fields of each of its values
abbrev chained : Site → Tree → Tag → List Item → List Label → Variants
chained site c tag items [] = no_variant
chained site c tag items (l ∷ ls) = variant (number_of l tag.values) (case_row (formats_for site c (fields_for site l items))) (chained site c tag items ls)

abbrev pub is_filled : Names → List Field → Bool
is_filled names (f ∷ []) = names.is_filling f.of
is_filled names _ = false

-- what fills a length of `width` bytes
abbrev pub filled : Site → Tree → (width : ℕ) → List Field → Format
filled site c width fields = elim (is_filled site.names fields) as (λ b. Format) [ true ↦ fixed_bytes_format width | false ↦ fixed_enclosed_format width (row (formats_for site c fields)) ]

abbrev in_lengths : Site → Tree → Tag → (width : ℕ) → List Item → List Label → List Variants
in_lengths site c tag width items [] = []
in_lengths site c tag width items (l ∷ ls) = variant (number_of l tag.values) (filled site c width (fields_for site l items)) no_variant ∷ in_lengths site c tag width items ls

abbrev alone : Site → Tree → Tag → List Case → List Label → List Variants
alone site c tag cases [] = []
alone site c tag cases (l ∷ ls) = variant (number_of l tag.values) (row (formats_for site c (fields_of l cases))) no_variant ∷ alone site c tag cases ls

abbrev variants_of : Site → Tree → Tag → List Item → Option ℕ → Variants
variants_of site c tag items None = chained site c tag items (first_labels items)
variants_of site c tag items (Some width) = one_of (in_lengths site c tag width items (first_labels items))

abbrev pub tagged_of : Site → Field → List Item → Tree → Format
tagged_of site f items c = let tag = site.names.tag f.of in tagged_format tag.width (variants_of site c tag items (length_width site items))

-- a small letter is the first of a field's name; a capital that of a type
abbrev is_small : Name → Bool
is_small [] = false
is_small (c ∷ cs) = nat_lt 96 c

abbrev name_or : (default : Name) → Ending → Name
name_or default (Called name) = elim (is_small name) as (λ b. Name) [ true ↦ name | false ↦ default ]
name_or default _ = default

-- a note can give a select the name of its field
abbrev noted_name : List Note → (path default : Name) → Name
noted_name [] path default = default
noted_name (IsCalled p name ∷ notes) path default = elim (bytes_eq p path && is_small name) as (λ b. Name) [ true ↦ name | false ↦ noted_name notes path default ]
noted_name (_ ∷ notes) path default = noted_name notes path default

abbrev name_of_part : Site → (tag : Name) → Name
name_of_part site tag = noted_name site.notes (part_of site.struct tag) tag

-- a tag and its selects are one piece, under the name of the field after them, or else of the tag
abbrev piece_name : (tag : Name) → List Item → Name
piece_name tag [] = tag
piece_name tag (Plain f ∷ items) = piece_name tag items
piece_name tag (Choice s ∷ items) = name_or (piece_name tag items) s.ending

pub record Reading : Type 1 where
  pub pieces : List Piece
  -- how many items more were read
  pub more : ℕ

-- one value alone: a constant, and the fields of its case in the struct itself
abbrev single : Site → Field → List Item → Label → List Piece
single site f items label =
    free_piece f.name false (λ c. let tag = site.names.tag f.of in constant_format tag.width (number_of label tag.values))
    ∷ map (field_piece site) (fields_for site label items)

-- the tag in what its cases stand for
abbrev tag_value : Tree → Tree
tag_value (Join number _) = Join number Empty
tag_value _ = Empty

abbrev tag_number : Tree → Tree
tag_number (Join number _) = number
tag_number _ = Empty

abbrev tag_tree : (is_closed : Bool) → Tree → Tree
tag_tree true v = tag_value v
tag_tree false v = tag_number v

abbrev tagged_piece : Site → Field → List Item → Piece
tagged_piece site f items = record {
  name = piece_name (name_of_part site f.name) items;
  format = tagged_of site f items;
  is_borrowed = true;
  needs = None;
  holds = λ key. elim (is_key key site.struct f) as (λ b. Option (Tree → Tree)) [ true ↦ Some (tag_tree (site.names.tag f.of).is_closed) | false ↦ None ];
}

abbrev of_labels : Site → Field → List Item → List Label → List Piece
of_labels site f items (label ∷ []) = single site f items label
of_labels site f items _ = tagged_piece site f items ∷ []

-- a number that counts the bytes of the next field is that field's length
abbrev is_counted : Field → Vector → Bool
is_counted f (Counted path) = bytes_eq (last path) f.name
is_counted f _ = false

abbrev counted_piece : Site → Field → Field → Reading
counted_piece site f g = record {
  pieces = free_piece g.name false (λ c. fixed_bytes_format (site.names.tag f.of).width) ∷ [];
  more = 1;
}

-- what goes to the end of what is read is no piece
abbrev plain_reading : Site → Field → Reading
plain_reading site f = record {
  pieces = elim (fills site.notes (part_of site.struct f.name)) as (λ b. List Piece) [ true ↦ [] | false ↦ field_piece site f ∷ [] ];
  more = 0;
}

abbrev without_select : Site → Field → List Item → Reading
without_select site f (Plain g ∷ items) = elim (is_counted f g.vector) as (λ b. Reading) [ true ↦ counted_piece site f g | false ↦ plain_reading site f ]
without_select site f _ = plain_reading site f

abbrev type_named : Option Field → Name
type_named None = []
type_named (Some f) = f.of

-- the type of a field of the struct, as a tag
abbrev pub tag_in : Site → (field : Name) → Tag
tag_in site field = site.names.tag (type_named (field_named field site.items))

-- what is after a tag, up to the last select on it
abbrev pub after_tag : Name → List Item → List Item
after_tag name [] = []
after_tag name (Choice s ∷ items) = after_tag name items
after_tag name (Plain f ∷ items) = elim (bytes_eq name f.name) as (λ b. List Item) [ true ↦ take (span f 0 0 items) items | false ↦ after_tag name items ]

-- the number of a constant, or of the one value of a tag
abbrev number_with : Tag → Option Constant → List Label → ℕ
number_with tag (Some k) labels = constant_number tag k
number_with tag None (label ∷ []) = number_of label tag.values
number_with tag None _ = 0

abbrev constant_number_by : Site → Option Field → List Item → ℕ
constant_number_by site None items = 0
constant_number_by site (Some f) items = number_with (site.names.tag f.of) f.constant (first_labels items)

abbrev pub constant_number_in : Site → (field : Name) → ℕ
constant_number_in site field = constant_number_by site (field_named field site.items) (after_tag field site.items)

abbrev constant_width_by : Site → Option Field → ℕ
constant_width_by site None = 0
constant_width_by site (Some f) = constant_width f.vector (site.names.tag f.of)

abbrev pub constant_width_in : Site → (field : Name) → ℕ
constant_width_in site field = constant_width_by site (field_named field site.items)

abbrev reading : Site → Field → List Item → Reading
reading site f items = let n = span f 0 0 items in elim (n == 0) as (λ b. Reading) [
  | true ↦ without_select site f items
  | false ↦ record { pieces = of_labels site f (take n items) (first_labels (take n items)); more = n }
]

-- ---- a select whose tag another struct has

abbrev with_fields : List Case → List Case
with_fields [] = []
with_fields (c ∷ cs) = elim (length c.fields == 0) as (λ b. List Case) [ true ↦ with_fields cs | false ↦ c ∷ with_fields cs ]

-- a field for some values of a tag: one case has it, and the others have nothing
pub record Present : Type 0 where
  pub labels : List Label
  pub field : Field

abbrev only_field : Case → List Field → Option Present
only_field c (f ∷ []) = Some (record { labels = c.label ∷ c.more; field = f })
only_field c _ = None

abbrev only_case : List Case → Option Present
only_case (c ∷ []) = only_field c (map field_in c.fields)
only_case _ = None

abbrev present_in : List Case → Option Present
present_in cases = elim (nat_lt 1 (length cases)) as (λ b. Option Present) [ true ↦ only_case (with_fields cases) | false ↦ None ]

-- the tag at the end of a path
abbrev pub tag_on : Site → (path : Name) → Tag
tag_on site path = site.names.tag (tag_type site.names.lookup site.items path)

-- the fields of a case of the select on this path
abbrev pub fields_on : (path : Name) → Label → List Item → List Field
fields_on path label [] = []
fields_on path label (Plain f ∷ items) = fields_on path label items
fields_on path label (Choice s ∷ items) = elim (bytes_eq path s.path) as (λ b. List Field) [ true ↦ fields_of label s.cases | false ↦ fields_on path label items ]

abbrev chosen_from : Site → Select → Tree → Format
chosen_from site s c = let tag = tag_on site s.path in
    chosen_format (selected tag c) (one_of (alone site c tag s.cases (labels_of s.cases)))

abbrev present_from : Site → Tag → Present → Tree → Format
present_from site tag p c =
    present_format (is_one_of (map (λ l. number_of l tag.values) p.labels) (selected tag c)) (field_format site.names c p.field)

abbrev on_key : Site → Select → Name → (Tree → Format) → Piece
on_key site s name format = record { name = name; format = format; is_borrowed = false; needs = Some (key_of site.names.lookup s.path); holds = λ key. None }

abbrev decided_piece : Site → Select → Option Present → Piece
decided_piece site s None = on_key site s (name_or (name_of_part site (last s.path)) s.ending) (chosen_from site s)
decided_piece site s (Some p) = on_key site s p.field.name (present_from site (tag_on site s.path) p)

-- a note can say which value the tag always has
abbrev select_pieces : Site → Select → Option Label → List Piece
select_pieces site s (Some label) = map (field_piece site) (fields_of label s.cases)
select_pieces site s None = decided_piece site s (present_in s.cases) ∷ []

abbrev pub pieces_from : Site → (skip : ℕ) → List Item → List Piece
pieces_from site skip [] = []
pieces_from site (suc skip) (item ∷ items) = pieces_from site skip items
pieces_from site zero (Plain f ∷ items) = let r = reading site f items in r.pieces ++ pieces_from site r.more items
pieces_from site zero (Choice s ∷ items) = select_pieces site s (equals site.notes (part_of site.struct (last s.path))) ++ pieces_from site zero items

abbrev pub pieces : Site → List Piece
pieces site = pieces_from site 0 site.items
