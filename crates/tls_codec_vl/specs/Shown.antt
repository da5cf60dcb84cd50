-- How byte vectors are printed by `{:?}`.
use Rattle.std.specs.Prelude.{ℕ, ◌/◌, ◌%◌, List, [], ◌∷◌, ◌++◌, codes, false, flat_map}
use Rattle.std.specs.Fmt.{digit_glyph}

-- a byte as two lower-case hex digits
abbrev pub byte_text : ℕ → List ℕ
byte_text b = digit_glyph false (b / 16) ∷ digit_glyph false (b % 16) ∷ []

-- `b""` for no bytes, and else `0x` and the digits of each
abbrev pub content_text : List ℕ → List ℕ
content_text [] = codes "b\"\""
content_text (b ∷ bs) = codes "0x" ++ flat_map byte_text (b ∷ bs)

-- a type's name, and bytes in braces
abbrev pub debug_text : List ℕ → List ℕ → List ℕ
debug_text name content = name ++ codes " { " ++ content_text content ++ codes " }"
