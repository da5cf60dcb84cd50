-- Why a value has the bytes that its text says: what the laws of written crates cite.
use Rattle.std.proofs.Common.{◌≡◌, ◌++◌, ℕ, List, [], ◌∷◌, Bool, true, false}
use Rattle.std.specs.Prelude.{◌↔◌, Option, Some, None, codes, map}
use Prim.Native.String.{String}
use Rattle.tls_codec_wire.specs.Digits.{Digits}
use Rattle.tls_codec_grammar.specs.Tree.{Tree, Number, Join, Empty}
use Rattle.tls_codec_grammar.specs.Grammar.{Direction, Concat, Counted}
use Rattle.tls_codec_grammar.specs.Format.{Format, number_format}
use Rattle.tls_codec_grammar.specs.Contexts.{then_format}
use Rattle.tls_codec_grammar.specs.Inside.{bytes_to_end_format}
use Rattle.tls_codec_base.specs.OwnMessages.{fixed_bytes_format}
use Rattle.tls_codec_cases.specs.Enclosed.{fixed_enclosed_format}
use Rattle.tls_presentation.specs.Definition.{Field, Label}
use Rattle.tls_presentation.specs.Rows.{row, borrowed_row, case_row}
use Rattle.tls_presentation.specs.Tags.{Tag, number_of, selected}
use Rattle.tls_presentation.specs.Pieces.{Piece, Site, fields_for, length_width, formats_for, filled, is_filled, after_tag, tag_in, tag_on, fields_on, pieces}
use Rattle.tls_presentation.specs.Holding.{decides, context_in, formats_in, formats_on, after_row, holding, struct_format}
use Rattle.tls_presentation.specs.Meaning.{Text, struct_in}
use Rattle.tls_presentation.specs.Says.{Member, found, in_row, formats_said, trees_said, says, field_trees, inside_formats, case_row_says, case_says, choice_says, number_says}
use Rattle.tls_presentation.proofs.Flat.{SameLength, flip, compose, rows_append, row_snoc, row_nil, tree_row, tree_borrowed_row, tree_case_row, row_flat, borrowed_row_flat, case_row_flat, concat_iff, concat_end, counted_iff, same_iff}

same_pieces : (f : Piece → Format) (t : Piece → Tree) (ps : List Piece) → SameLength (map f ps) (map t ps)
same_pieces f t [] = tt
same_pieces f t (p ∷ ps) = same_pieces f t ps

-- ---- structs

-- what a struct stands for, grouped as its format is
abbrev behind_tree : List Tree → Tree → Tree
behind_tree [] v = v
behind_tree (t ∷ ts) v = Join (tree_row (t ∷ ts)) (Join v Empty)

abbrev holding_tree : (before : List Tree) → List Member → List Piece → Tree
holding_tree before members [] = tree_row before
holding_tree before members (p ∷ ps) = elim (decides p ps) as (λ b. Tree) [
  | true ↦ behind_tree before (Join (found members p.name) (tree_row (trees_said members ps)))
  | false ↦ holding_tree (before ++ found members p.name ∷ []) members ps
]

holder_flat : (f : Format) (rest : Tree → Format) (t : Tree) (gs : List Format) (us : List Tree) → ((d : Direction) (s : List ℕ) → (rest t).spells d s (tree_row us) ↔ in_row gs us d s) → (fs : List Format) (ts : List Tree) → SameLength fs ts → (d : Direction) (b : List ℕ) → (after_row fs (then_format f rest)).spells d b (behind_tree ts (Join t (tree_row us))) ↔ in_row (fs ++ f ∷ gs) (ts ++ t ∷ us) d b
holder_flat f rest t gs us h [] [] l d b = concat_iff b (λ s. same_iff) (λ s. h d s)
holder_flat f rest t gs us h [] (u ∷ ts) l d b = absurd l
holder_flat f rest t gs us h (g ∷ fs) [] l d b = absurd l
holder_flat f rest t gs us h (g ∷ fs) (u ∷ ts) l d b =
    compose (concat_iff b (λ s. row_flat (g ∷ fs) (u ∷ ts) l d s)
    (λ s. compose (flip (concat_end (λ v. (then_format f rest).spells d v (Join t (tree_row us))) s)) (concat_iff s (λ v. same_iff) (λ v. h d v))))
    (rows_append (g ∷ fs) (u ∷ ts) (f ∷ gs) (t ∷ us) l d b)

-- as more of the pieces are taken
abbrev HoldingFlat : Tree → List Member → List Piece → Type 1
HoldingFlat c members ps = (fs : List Format) (ts : List Tree) → SameLength fs ts → (d : Direction) (b : List ℕ) → (holding fs ps c).spells d b (holding_tree ts members ps) ↔ in_row (fs ++ formats_said c members ps) (ts ++ trees_said members ps) d b

snoc_same : (fs : List Format) (ts : List Tree) (f : Format) (t : Tree) → SameLength fs ts → SameLength (fs ++ f ∷ []) (ts ++ t ∷ [])
snoc_same [] [] f t l = tt
snoc_same [] (u ∷ ts) f t l = absurd l
snoc_same (g ∷ fs) [] f t l = absurd l
snoc_same (g ∷ fs) (u ∷ ts) f t l = snoc_same fs ts f t l

-- by whether the first piece decides others
holding_by : (x : Bool) (c : Tree) (members : List Member) (p : Piece) (ps : List Piece) → HoldingFlat c members ps → (fs : List Format) (ts : List Tree) → SameLength fs ts → (d : Direction) (b : List ℕ) → (elim x as (λ y. Format) [ true ↦ after_row fs (then_format (p.format c) (λ v. row (formats_on p v ps))) | false ↦ holding (fs ++ p.format c ∷ []) ps c ]).spells d b (elim x as (λ y. Tree) [ true ↦ behind_tree ts (Join (found members p.name) (tree_row (trees_said members ps))) | false ↦ holding_tree (ts ++ found members p.name ∷ []) members ps ]) ↔ in_row (fs ++ (elim x as (λ y. List Format) [ true ↦ p.format c ∷ formats_on p (found members p.name) ps | false ↦ p.format c ∷ formats_said c members ps ])) (ts ++ found members p.name ∷ trees_said members ps) d b
holding_by true c members p ps h fs ts l d b =
    holder_flat (p.format c) (λ v. row (formats_on p v ps)) (found members p.name) (formats_on p (found members p.name) ps) (trees_said members ps)
    (row_flat (formats_on p (found members p.name) ps) (trees_said members ps) (same_pieces (λ q. q.format (context_in p (found members p.name) q.needs)) (λ q. found members q.name) ps))
    fs ts l d b
holding_by false c members p ps h fs ts l d b =
    compose (h (fs ++ p.format c ∷ []) (ts ++ found members p.name ∷ []) (snoc_same fs ts (p.format c) (found members p.name) l) d b)
    (row_snoc fs ts (p.format c) (found members p.name) (formats_said c members ps) (trees_said members ps) l d b)

holding_flat : (c : Tree) (members : List Member) (ps : List Piece) → HoldingFlat c members ps
holding_flat c members [] fs ts l d b = compose (row_flat fs ts l d b) (row_nil fs ts l d b)
holding_flat c members (p ∷ ps) fs ts l d b = holding_by (decides p ps) c members p ps (holding_flat c members ps) fs ts l d b

pub struct_saying : (text : Text) (struct : String) (c : Tree) (members : List Member) (d : Direction) (b : List ℕ) → (struct_format false (pieces (struct_in text (codes struct))) c).spells d b (holding_tree [] members (pieces (struct_in text (codes struct)))) ↔ says text struct c members d b
struct_saying text struct c members = holding_flat c members (pieces (struct_in text (codes struct))) [] [] tt

-- ---- structs of references

abbrev are_borrowed : List Piece → List Bool
are_borrowed ps = map (λ p. p.is_borrowed) ps

-- no piece decides others
abbrev borrowed_bytes : Tree → List Member → List Piece → Direction → List ℕ → Type 0
borrowed_bytes c members ps d b = (borrowed_row (are_borrowed ps) (formats_in c ps)).spells d b (tree_borrowed_row (are_borrowed ps) (trees_said members ps))

pub borrowed_saying : (text : Text) (struct : String) (c : Tree) (members : List Member) (d : Direction) (b : List ℕ) → borrowed_bytes c members (pieces (struct_in text (codes struct))) d b ↔ in_row (formats_in c (pieces (struct_in text (codes struct)))) (trees_said members (pieces (struct_in text (codes struct)))) d b
borrowed_saying text struct c members = let ps = pieces (struct_in text (codes struct)) in
    borrowed_row_flat (are_borrowed ps) (formats_in c ps) (trees_said members ps) (same_pieces (λ p. p.format c) (λ p. found members p.name) ps)

-- ---- enums

pub number_saying : (text : Text) (of : String) (n : ℕ) (d : Direction) (b : List ℕ) → (number_format (text.names.tag (codes of)).width).spells d b (Number n) ↔ number_says text of n d b
number_saying text of n d b = concat_end (λ s. (number_format (text.names.tag (codes of)).width).spells d s (Number n)) b

-- ---- selects

fields_same : (site : Site) (c : Tree) (members : List Member) (fields : List Field) → SameLength (formats_for site c fields) (field_trees members fields)
fields_same site c members [] = tt
fields_same site c members (f ∷ fs) = fields_same site c members fs

abbrev only_tree : List Tree → Tree
only_tree (t ∷ []) = t
only_tree _ = Empty

abbrev filled_tree : Bool → List Tree → Tree
filled_tree true ts = only_tree ts
filled_tree false ts = tree_row ts

-- the fields of a case, as they are written behind the tag
abbrev parts_bytes : Site → Tree → Option ℕ → List Member → List Field → Direction → List ℕ → Type 0
parts_bytes site c None members fields d b = (case_row (formats_for site c fields)).spells d b (tree_case_row (field_trees members fields))
parts_bytes site c (Some width) members fields d b = (filled site c width fields).spells d b (filled_tree (is_filled site.names fields) (field_trees members fields))

abbrev case_bytes : Site → Tree → Option ℕ → Tag → Label → List Member → List Field → Direction → List ℕ → Type 0
case_bytes site c length tag label members fields d b =
    Concat b (λ s. (number_format tag.width).spells d s (Number (number_of label tag.values))) (λ s. parts_bytes site c length members fields d s)

single_inside : (b : Bool) (width : ℕ) (fs : List Format) (t : Tree) → SameLength fs (t ∷ []) → (d : Direction) (s : List ℕ) → (elim b as (λ x. Format) [ true ↦ fixed_bytes_format width | false ↦ fixed_enclosed_format width (row fs) ]).spells d s (filled_tree b (t ∷ [])) ↔ Counted (Digits width) s (λ inside. in_row (elim b as (λ x. List Format) [ true ↦ bytes_to_end_format ∷ [] | false ↦ fs ]) (t ∷ []) d inside)
single_inside true width fs t l d s = counted_iff s (λ u. concat_end (λ v. bytes_to_end_format.spells d v t) u)
single_inside false width fs t l d s = counted_iff s (λ u. row_flat fs (t ∷ []) l d u)

inside_saying : (site : Site) (c : Tree) (width : ℕ) (members : List Member) (fields : List Field) (d : Direction) (s : List ℕ) → (filled site c width fields).spells d s (filled_tree (is_filled site.names fields) (field_trees members fields)) ↔ Counted (Digits width) s (λ inside. in_row (inside_formats site c fields) (field_trees members fields) d inside)
inside_saying site c width members [] d s = counted_iff s (λ u. row_flat [] [] tt d u)
inside_saying site c width members (f ∷ []) d s = single_inside (site.names.is_filling f.of) width (formats_for site c (f ∷ [])) (found members f.name) tt d s
inside_saying site c width members (f ∷ g ∷ more) d s =
    counted_iff s (λ u. row_flat (formats_for site c (f ∷ g ∷ more)) (field_trees members (f ∷ g ∷ more)) (fields_same site c members (f ∷ g ∷ more)) d u)

case_says_so : (site : Site) (c : Tree) (length : Option ℕ) (tag : Tag) (label : Label) (members : List Member) (fields : List Field) (d : Direction) (b : List ℕ) → case_bytes site c length tag label members fields d b ↔ case_row_says site c length tag label members fields d b
case_says_so site c None tag label members fields d b =
    concat_iff b (λ s. same_iff) (λ s. case_row_flat (formats_for site c fields) (field_trees members fields) (fields_same site c members fields) d s)
case_says_so site c (Some width) tag label members fields d b = concat_iff b (λ s. same_iff) (λ s. inside_saying site c width members fields d s)

pub case_saying : (text : Text) (struct tag : String) (label : Label) (c : Tree) (members : List Member) (d : Direction) (b : List ℕ) → case_bytes (struct_in text (codes struct)) c (length_width (struct_in text (codes struct)) (after_tag (codes tag) (struct_in text (codes struct)).items)) (tag_in (struct_in text (codes struct)) (codes tag)) label members (fields_for (struct_in text (codes struct)) label (after_tag (codes tag) (struct_in text (codes struct)).items)) d b ↔ case_says text struct tag label c members d b
case_saying text struct tag label c members = case_says_so (struct_in text (codes struct)) c (length_width (struct_in text (codes struct)) (after_tag (codes tag) (struct_in text (codes struct)).items)) (tag_in (struct_in text (codes struct)) (codes tag)) label members (fields_for (struct_in text (codes struct)) label (after_tag (codes tag) (struct_in text (codes struct)).items))

-- on a tag that another struct has
pub choice_saying : (text : Text) (struct path : String) (label : Label) (c : Tree) (members : List Member) (d : Direction) (b : List ℕ) → ((number_of label (tag_on (struct_in text (codes struct)) (codes path)).values ≡ selected (tag_on (struct_in text (codes struct)) (codes path)) c) × (row (formats_for (struct_in text (codes struct)) c (fields_on (codes path) label (struct_in text (codes struct)).items))).spells d b (tree_row (field_trees members (fields_on (codes path) label (struct_in text (codes struct)).items)))) ↔ choice_says text struct path label c members d b
choice_saying text struct path label c members d b = let site = struct_in text (codes struct) in
    let fields = fields_on (codes path) label site.items in
    let flat = row_flat (formats_for site c fields) (field_trees members fields) (fields_same site c members fields) d b in
    (λ p. (p.0, flat.0 p.1), λ p. (p.0, flat.1 p.1))
