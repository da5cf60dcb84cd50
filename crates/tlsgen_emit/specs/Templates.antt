-- Templates: texts with holes.
use Rattle.std.specs.Prelude.{ℕ, Bool, true, false, not, List, [], ◌∷◌, ◌++◌, ◌==◌, cond, codes, bytes_eq, string_bytes}
use Rattle.std.specs.List.{slice_split}
use Rattle.tlsgen_emit.specs.declared.template.Hole.{Hole}

-- what stands for a word: what was set for it first, and its hole where nothing was
abbrev pub text_of : List Hole → List ℕ → List ℕ
text_of [] word = codes "$" ++ (word ++ codes "$")
text_of (hole ∷ holes) word = cond (bytes_eq hole.word.now word) (string_bytes hole.text) (text_of holes word)

abbrev pub piece_of : List Hole → (is_hole : Bool) → List ℕ → List ℕ
piece_of holes true word = text_of holes word
piece_of holes false text = text

-- pieces that are by turns text and the words of holes
abbrev pub by_turns : List Hole → (is_hole : Bool) → List (List ℕ) → List ℕ
by_turns holes is_hole [] = []
by_turns holes is_hole (piece ∷ pieces) = piece_of holes is_hole piece ++ by_turns holes (not is_hole) pieces

-- a template is cut at its dollar signs
abbrev pub filled : List Hole → List ℕ → List ℕ
filled holes template = by_turns holes false (slice_split (λ b. b == 36) template)
