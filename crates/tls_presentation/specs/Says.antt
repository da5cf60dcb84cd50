-- The bytes that a text says for a value: those of its parts, one after another, each found by its name.
use Rattle.std.specs.Prelude.{◌≡◌, ◌↔◌, ℕ, List, [], ◌∷◌, true, false, Option, Some, None, codes, map, bytes_eq}
use Prim.Native.String.{String}
use Rattle.tls_codec_wire.specs.Digits.{Digits}
use Rattle.tls_codec_grammar.specs.Tree.{Tree, Number, Empty, Join}
use Rattle.tls_codec_grammar.specs.Grammar.{Direction, Concat, Counted}
use Rattle.tls_codec_grammar.specs.Format.{Format, number_format}
use Rattle.tls_codec_grammar.specs.Inside.{bytes_to_end_format}
use Rattle.tls_presentation.specs.Definition.{Value, Named, Name, Label, Word, Field}
use Rattle.tls_presentation.specs.Tags.{is_reserved, Tag, number_of, selected}
use Rattle.tls_presentation.specs.Pieces.{constant_width_in, constant_number_in, Piece, Site, fields_for, length_width, formats_for, is_filled, after_tag, tag_in, tag_on, fields_on, pieces}
use Rattle.tls_presentation.specs.Holding.{decides, formats_on}
use Rattle.tls_presentation.specs.Meaning.{Text, struct_in}

-- a part's name, as the text has it, and what it stands for
abbrev pub Member : Type 0
Member = Name × Tree

abbrev pub called : String → Tree → Member
called name tree = (codes name, tree)

-- a part that is not there stands for no value
abbrev pub found : List Member → Name → Tree
found [] name = Join Empty (Number 0)
found (m ∷ ms) name = elim (bytes_eq m.0 name) as (λ b. Tree) [ true ↦ m.1 | false ↦ found ms name ]

-- a value's bytes, read or written, are just those that the text says
abbrev pub SpelledAs : Format → Tree → (Direction → List ℕ → Type 0) → Type 0
SpelledAs f tree said = (d : Direction) (b : List ℕ) → f.spells d b tree ↔ said d b

-- the parts' bytes, one after another (RFC 8446, section 3.6)
abbrev pub in_row : List Format → List Tree → Direction → List ℕ → Type 0
in_row [] [] d b = b ≡ []
in_row [] (t ∷ ts) d b = ⊥
in_row (f ∷ fs) [] d b = ⊥
in_row (f ∷ fs) (t ∷ ts) d b = Concat b (λ s. f.spells d s t) (λ s. in_row fs ts d s)

-- ---- structs

-- the formats of the parts; those after one that holds tags are in the context of the value of that
-- one
abbrev pub formats_said : Tree → List Member → List Piece → List Format
formats_said c members [] = []
formats_said c members (p ∷ ps) = elim (decides p ps) as (λ b. List Format) [
  | true ↦ p.format c ∷ formats_on p (found members p.name) ps
  | false ↦ p.format c ∷ formats_said c members ps
]

abbrev pub trees_said : List Member → List Piece → List Tree
trees_said members ps = map (λ p. found members p.name) ps

abbrev pub says : Text → (struct : String) → Tree → List Member → Direction → List ℕ → Type 0
says text struct c members d b = let ps = pieces (struct_in text (codes struct)) in in_row (formats_said c members ps) (trees_said members ps) d b

-- ---- enums (section 3.5): the number of the value that has this name

abbrev pub value_says : Text → (of name : String) → Direction → List ℕ → Type 0
value_says text of name d b = let tag = text.names.tag (codes of) in in_row (number_format tag.width ∷ []) (Number (number_of (Word (codes name)) tag.values) ∷ []) d b

-- the number of the value that has this name
abbrev pub value_number : Text → (of : String) → (name : List ℕ) → ℕ
value_number text of name = number_of (Word name) (text.names.tag (codes of)).values

abbrev names_with : List Value → List (ℕ × Name)
names_with [] = []
names_with (Named (Word name) n ∷ values) = elim (is_reserved (Word name)) as (λ b. List (ℕ × Name)) [ true ↦ names_with values | false ↦ (n, name) ∷ names_with values ]
names_with (_ ∷ values) = names_with values

-- the numbers that have names, in the order of the text
abbrev pub names_in : Text → (of : String) → List (ℕ × List ℕ)
names_in text of = names_with (text.names.tag (codes of)).values

-- a constant (section 3.7), or the tag of a select with one case
abbrev pub constant_says : Text → (struct field : String) → Direction → List ℕ → Type 0
constant_says text struct field d b =
    let site = struct_in text (codes struct) in
    in_row (number_format (constant_width_in site (codes field)) ∷ []) (Number (constant_number_in site (codes field)) ∷ []) d b

-- a number of a registry, whichever it is
abbrev pub number_says : Text → (of : String) → ℕ → Direction → List ℕ → Type 0
number_says text of n d b = in_row (number_format (text.names.tag (codes of)).width ∷ []) (Number n ∷ []) d b

-- ---- selects (section 3.8)

abbrev pub field_trees : List Member → List Field → List Tree
field_trees members fields = map (λ f. found members f.name) fields

-- what fills a length is bytes up to its end
abbrev pub inside_formats : Site → Tree → List Field → List Format
inside_formats site c fields = elim (is_filled site.names fields) as (λ b. List Format) [ true ↦ bytes_to_end_format ∷ [] | false ↦ formats_for site c fields ]

-- the tag's number and the fields of its case, which may be in a length
abbrev pub case_row_says : Site → Tree → Option ℕ → Tag → Label → List Member → List Field → Direction → List ℕ → Type 0
case_row_says site c None tag label members fields d b =
    in_row (number_format tag.width ∷ formats_for site c fields) (Number (number_of label tag.values) ∷ field_trees members fields) d b
case_row_says site c (Some width) tag label members fields d b =
    Concat b (λ s. (number_format tag.width).spells d s (Number (number_of label tag.values)))
    (λ s. Counted (Digits width) s (λ inside. in_row (inside_formats site c fields) (field_trees members fields) d inside))

abbrev pub case_says : Text → (struct tag : String) → Label → Tree → List Member → Direction → List ℕ → Type 0
case_says text struct tag label c members d b =
    let site = struct_in text (codes struct) in
    let items = after_tag (codes tag) site.items in
    case_row_says site c (length_width site items) (tag_in site (codes tag)) label members (fields_for site label items) d b

-- a select whose tag another struct has: no byte shows it, and the context has to say this number
abbrev pub choice_says : Text → (struct path : String) → Label → Tree → List Member → Direction → List ℕ → Type 0
choice_says text struct path label c members d b =
    let site = struct_in text (codes struct) in
    let tag = tag_on site (codes path) in
    let fields = fields_on (codes path) label site.items in
    (number_of label tag.values ≡ selected tag c) × in_row (formats_for site c fields) (field_trees members fields) d b
