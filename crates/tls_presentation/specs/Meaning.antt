-- Which bytes a definition says (RFC 8446, section 3; RFC 9420, section 2.1), under the formats of the names that it uses.
use Rattle.std.specs.Prelude.{◌↔◌, ℕ, zero, suc, List, [], ◌∷◌, ◌==◌, ◌||◌, ◌&&◌, Bool, true, false, not, Option, Some, None, codes, length, bytes_eq}
use Prim.Native.String.{String}
use Rattle.tls_codec_grammar.specs.Format.{Format, number_format, text_format}
use Rattle.tls_codec_grammar.specs.Tree.{Tree}
use Rattle.tls_codec_grammar.specs.Grammar.{Direction}
use Rattle.tls_codec_grammar.specs.Tagged.{no_format}
use Rattle.tls_presentation.specs.Definition.{Name, Value, Item, Plain, Definition, Enum, Struct, SignedStruct, Alias, Note}
use Rattle.tls_presentation.specs.Names.{Key, part_of, spread, name_of, items_of, Lookup, name_alike, tags_in, is_one, fills, noted_closed, noted_open, noted_borrowed, values_noted}
use Rattle.tls_presentation.specs.Cut.{first}
use Rattle.tls_presentation.specs.Tags.{Tag, enum_width, tag_format}
use Rattle.tls_presentation.specs.Fields.{Names, field_format}
use Rattle.tls_presentation.specs.Pieces.{Piece, Site, pieces}
use Rattle.tls_presentation.specs.Holding.{struct_format, held, needed}

-- ---- definitions, and texts of them

abbrev site_of : Names → List Note → Definition → Site
site_of names notes d = record { names = names; notes = notes; struct = name_of d; items = items_of d }

-- numbers without a name are rejected of an enum that a select is on, unless a note or the definition says otherwise
abbrev enum_tag : List Note → (tags : List Name) → Bool → List Value → Name → Tag
enum_tag notes tags is_open values name = record {
  width = enum_width values;
  values = values;
  is_closed = noted_closed notes name || (not (is_open || noted_open notes name) && is_one name tags);
}

abbrev tag_of : Names → List Note → List Name → Definition → Tag
tag_of inner notes tags (Enum is_open values name) = enum_tag notes tags is_open values name
tag_of inner notes tags (Alias f) = record { width = (inner.tag f.of).width; values = values_noted notes f.name; is_closed = false }
tag_of inner notes tags _ = record { width = 0; values = []; is_closed = false }

abbrev is_reference : List Note → Definition → Bool
is_reference notes (Struct is_borrowed parts name) = is_borrowed || noted_borrowed notes name
is_reference notes (SignedStruct items name) = noted_borrowed notes name
is_reference notes _ = false

abbrev meaning : Names → List Note → List Name → Definition → Tree → Format
meaning inner notes tags (Enum is_open values name) c = tag_format (enum_tag notes tags is_open values name)
meaning inner notes tags (Alias f) c = field_format inner c f
meaning inner notes tags d c = struct_format (is_reference notes d) (pieces (site_of inner notes d)) c

abbrev needs_of : Names → List Note → Definition → Option Key
needs_of inner notes (Enum is_open values name) = None
needs_of inner notes (Alias f) = inner.needs f.of
needs_of inner notes d = let ps = pieces (site_of inner notes d) in needed ps ps

abbrev held_of : Names → List Note → Key → Definition → Option (Tree → Tree)
held_of inner notes key (Enum is_open values name) = None
held_of inner notes key (Alias f) = None
held_of inner notes key d = held (pieces (site_of inner notes d)) key

abbrev is_filling : List Note → Name → List Item → Bool
is_filling notes struct (Plain f ∷ []) = fills notes (part_of struct f.name)
is_filling notes struct _ = false

-- a tag that no definition is, and that has values by notes (RFC 7250)
abbrev noted_tag : List Value → Tag → Tag
noted_tag [] below = below
noted_tag (v ∷ vs) below = record { width = enum_width (v ∷ vs); values = v ∷ vs; is_closed = true }

abbrev noted_format : List Value → (Tree → Format) → Tree → Format
noted_format [] below c = below c
noted_format (v ∷ vs) below c = tag_format (record { width = enum_width (v ∷ vs); values = v ∷ vs; is_closed = true })

-- the definition of a name in a text
abbrev find : Name → List Definition → Option Definition
find name [] = None
find name (d ∷ ds) = elim (bytes_eq name (name_of d)) as (λ b. Option Definition) [ true ↦ Some d | false ↦ find name ds ]

abbrev name_or_below : Lookup → Option Name → Name → Name
name_or_below below None name = below.named name
name_or_below below (Some found) name = found

abbrev lookup_in : Lookup → List Definition → Lookup
lookup_in below ds = record {
  items = λ name. elim (find name ds) as (λ d. List Item) [ Some d ↦ items_of d | None ↦ below.items name ];
  named = λ name. name_or_below below (name_alike name ds) name;
}

-- What the definitions of a text mean, if the names in them mean what `inner` says. Other names are those of the text below.
abbrev names_by : Names → List Note → List Name → List Definition → Names → Names
names_by below notes tags ds inner = record {
  format = λ name. elim (find name ds) as (λ d. Tree → Format) [ Some d ↦ meaning inner notes tags d | None ↦ noted_format (values_noted notes name) (below.format name) ];
  tag = λ name. elim (find name ds) as (λ d. Tag) [ Some d ↦ tag_of inner notes tags d | None ↦ noted_tag (values_noted notes name) (below.tag name) ];
  lookup = lookup_in below.lookup ds;
  is_borrowed = λ name. elim (find name ds) as (λ d. Bool) [ Some d ↦ is_reference notes d | None ↦ below.is_borrowed name ];
  is_filling = λ name. elim (find name ds) as (λ d. Bool) [ Some d ↦ is_filling notes name (items_of d) | None ↦ below.is_filling name ];
  needs = λ name. elim (find name ds) as (λ d. Option Key) [ Some d ↦ needs_of inner notes d | None ↦ below.needs name ];
  holds = λ name key. elim (find name ds) as (λ d. Option (Tree → Tree)) [ Some d ↦ held_of inner notes key d | None ↦ below.holds name key ];
}

-- No type contains itself: so its names are known after as many steps as there are definitions.
abbrev names_after : (steps : ℕ) → Names → List Note → List Name → List Definition → Names
names_after zero below notes tags ds = below
names_after (suc steps) below notes tags ds = names_by below notes tags ds (names_after steps below notes tags ds)

-- the names of a text with its notes, over those of another text
abbrev pub names_over : Names → List Note → List Definition → Names
names_over below notes text = let ds = spread text in names_after (length ds) below notes (tags_in (lookup_in below.lookup ds) ds) ds

-- ---- types without a definition (section 3.3)

abbrev integer_width : Name → ℕ
integer_width name = first (
    (bytes_eq name (codes "opaque"), 1) ∷ (bytes_eq name (codes "uint8"), 1) ∷ (bytes_eq name (codes "uint16"), 2) ∷ (bytes_eq name (codes "uint24"), 3) ∷
    (bytes_eq name (codes "uint32"), 4) ∷ (bytes_eq name (codes "uint64"), 8) ∷ (bytes_eq name (codes "uint8_t"), 1) ∷ (bytes_eq name (codes "uint16_t"), 2) ∷
    (bytes_eq name (codes "uint32_t"), 4) ∷ (bytes_eq name (codes "uint64_t"), 8) ∷ []) 0

abbrev built_in : Name → Format
built_in name = elim (bytes_eq name (codes "string")) as (λ b. Format) [
  | true ↦ text_format
  | false ↦
      elim (integer_width name == 0) as (λ b. Format) [ true ↦ no_format | false ↦ number_format (integer_width name) ]
]

abbrev pub no_names : Names
no_names = record {
  format = λ name c. built_in name;
  tag = λ name. record { width = integer_width name; values = []; is_closed = false };
  lookup = record { items = λ name. []; named = λ name. name };
  is_borrowed = λ name. false;
  is_filling = λ name. false;
  needs = λ name. None;
  holds = λ name key. None;
}

-- ---- texts, and what their names mean

pub record Text : Type 1 where
  pub names : Names
  pub notes : List Note

abbrev pub text_over : Names → List Note → List Definition → Text
text_over below notes definitions = record { names = names_over below notes definitions; notes = notes }

-- a text that depends on no other
abbrev pub text_of : List Note → List Definition → Text
text_of notes definitions = text_over no_names notes definitions

-- what is in a struct of a text
abbrev pub struct_in : Text → (struct : Name) → Site
struct_in text struct = record { names = text.names; notes = text.notes; struct = struct; items = text.names.lookup.items struct }

abbrev piece_called : Name → List Piece → Tree → Format
piece_called name [] c = no_format
piece_called name (p ∷ ps) c = elim (bytes_eq name p.name) as (λ b. Format) [ true ↦ p.format c | false ↦ piece_called name ps c ]

-- the bytes of a type of a text, under what its context stands for
abbrev pub means : Text → String → Tree → Format
means text name c = text.names.format (codes name) c

-- the bytes of one of the parts of a struct
abbrev pub part_means : Text → (struct part : String) → Tree → Format
part_means text struct part c = piece_called (codes part) (pieces (struct_in text (codes struct))) c

-- ---- the same bytes spell the same values

abbrev pub SameBytes : Format → Format → Type 0
SameBytes f g = (d : Direction) (b : List ℕ) (v : Tree) → f.spells d b v ↔ g.spells d b v

pub same_bytes : (f : Format) → SameBytes f f
same_bytes f d b v = (λ p. p, λ p. p)
