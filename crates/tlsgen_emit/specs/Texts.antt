-- Words about texts.
use Rattle.std.specs.Prelude.{ℕ, List, ◌++◌, ◌==◌, if◌then◌else◌, codes}
use Rattle.std.specs.List.{list_any}

-- a text with a blank in it is put in brackets
abbrev pub bracketed : List ℕ → List ℕ
bracketed text = if list_any (λ b. b == 32) text then codes "(" ++ text ++ codes ")" else text
