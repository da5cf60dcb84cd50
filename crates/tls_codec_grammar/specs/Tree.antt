-- What a value stands for: a number, or the list of what its parts stand for.
use Rattle.std.specs.Prelude.{ℕ, Option, Some, None, List, [], ◌∷◌}

-- a list of trees is empty, or a first one and the list of the others
pub data Tree : Type 0 where
  Number : ℕ → Tree
  Empty : Tree
  Join : Tree → Tree → Tree

-- the list of what these values stand for
abbrev pub trees : {T : Type 0} → (T → Tree) → List T → Tree
trees plain [] = Empty
trees plain (x ∷ xs) = Join (plain x) (trees plain xs)

-- the list of these numbers
abbrev pub number_trees : List ℕ → Tree
number_trees ns = trees Number ns

-- an option stands for the list of its payload, if there is one
abbrev pub option_plain : {T : Type 0} → (T → Tree) → Option T → Tree
option_plain plain None = Empty
option_plain plain (Some x) = Join (plain x) Empty
