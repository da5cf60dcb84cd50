-- How values and bytes are printed.
use Rattle.std.specs.Prelude.{ℕ, zero, suc, List, [], ◌∷◌, ◌++◌, map, codes, decimal}
use Rattle.std.specs.List.{join_by}
use Rattle.hex.specs.Hex.{encode_lower}
use Rattle.tls_codec.specs.OwnMessages.{Tree, Number, Empty, Join}

-- the hex of some bytes, and `-` for none
abbrev pub hex_or_dash : List ℕ → List ℕ
hex_or_dash [] = codes "-"
hex_or_dash (b ∷ bs) = encode_lower (b ∷ bs)

-- a whole number is its decimal digits
abbrev pub number_text : Tree → List ℕ
number_text (Number n) = decimal n
number_text _ = []

-- an option is `none`, or `some ` and the payload's text
abbrev pub option_text : (Tree → List ℕ) → Tree → List ℕ
option_text payload Empty = codes "none"
option_text payload (Join v Empty) = codes "some " ++ payload v
option_text payload _ = []

-- a pair, or a struct of two fields, is its parts' texts, with a comma between them, in parentheses
abbrev pub pair_text : (Tree → List ℕ) → (Tree → List ℕ) → Tree → List ℕ
pair_text first second (Join v (Join w Empty)) = codes "(" ++ first v ++ codes "," ++ second w ++ codes ")"
pair_text first second _ = []

-- a triple, or a struct of three fields, the same
abbrev pub triple_text : (Tree → List ℕ) → (Tree → List ℕ) → (Tree → List ℕ) → Tree → List ℕ
triple_text first second third (Join v (Join w (Join x Empty))) =
    codes "(" ++ first v ++ codes "," ++ second w ++ codes "," ++ third x ++ codes ")"
triple_text first second third _ = []

-- the parts of a list
abbrev pub parts : Tree → List Tree
parts (Join v vs) = v ∷ parts vs
parts _ = []

-- the texts of a list's elements, with commas between them
abbrev pub elements_text : (Tree → List ℕ) → Tree → List ℕ
elements_text element v = join_by element (codes ",") (parts v)

-- a list is these in brackets
abbrev pub list_text : (Tree → List ℕ) → Tree → List ℕ
list_text element v = codes "[" ++ elements_text element v ++ codes "]"

-- the number that a value is
abbrev pub number_in : Tree → ℕ
number_in (Number n) = n
number_in _ = 0

-- bytes, and the UTF-8 of a text, are their hex, and `-` for none
abbrev pub bytes_text : Tree → List ℕ
bytes_text v = hex_or_dash (map number_in (parts v))

-- ---- messages

abbrev pub leaf_text : Tree → List ℕ
leaf_text = pair_text number_text bytes_text

-- a step is the name of its tag, 0, 1 or 2, and then what comes after the tag
abbrev pub step_text : Tree → List ℕ
step_text (Join (Number zero) Empty) = codes "ping"
step_text (Join (Number (suc zero)) (Join text Empty)) = codes "note " ++ bytes_text text
step_text (Join (Number (suc (suc zero))) (Join to Empty)) = codes "jump " ++ number_text to
step_text _ = []

abbrev pub log_text : Tree → List ℕ
log_text = triple_text bytes_text (list_text leaf_text) (option_text step_text)
