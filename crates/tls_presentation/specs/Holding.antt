-- A struct of pieces. Some of them can depend on a tag in one before (RFC 9420, section 6).
use Rattle.std.specs.Prelude.{ℕ, suc, List, [], ◌∷◌, ◌++◌, ◌+◌, ◌-◌, ◌==◌, ◌||◌, ◌&&◌, Bool, true, false, not, Option, Some, None, length, map, nat_lt}
use Rattle.tls_codec_grammar.specs.Format.{Format, pair_format}
use Rattle.tls_codec_grammar.specs.Tree.{Tree}
use Rattle.tls_codec_grammar.specs.Contexts.{then_format}
use Rattle.tls_presentation.specs.Names.{Key}
use Rattle.tls_codec_cases.specs.Held.{first_of, second_of, third_of}
use Rattle.tls_presentation.specs.Rows.{cuts, row, borrowed_row}
use Rattle.tls_presentation.specs.Pieces.{Piece}

-- ---- a tag in a field before: what depends on it is read in its context (RFC 9420, section 6)

abbrev pub is_there : {A : Type 0} → Option A → Bool
is_there None = false
is_there (Some x) = true

abbrev holds_need : Piece → Option Key → Bool
holds_need p None = false
holds_need p (Some key) = is_there (p.holds key)

abbrev pub decides : Piece → List Piece → Bool
decides p [] = false
decides p (q ∷ qs) = holds_need p q.needs || decides p qs

-- how many pieces are before the first on which later ones depend; or all
abbrev pub count_before : List Piece → ℕ
count_before [] = 0
count_before (p ∷ ps) = elim (decides p ps) as (λ b. ℕ) [ true ↦ 0 | false ↦ suc (count_before ps) ]

abbrev place_or : Tree → Option (Tree → Tree) → Tree
place_or v None = v
place_or v (Some place) = place v

-- what a piece is in the context of, if v is what the piece before stands for
abbrev pub context_in : Piece → Tree → Option Key → Tree
context_in holder v None = v
context_in holder v (Some key) = place_or v (holder.holds key)

abbrev pub formats_in : Tree → List Piece → List Format
formats_in c ps = map (λ p. p.format c) ps

-- of what comes after one that stands for v
abbrev pub formats_on : Piece → Tree → List Piece → List Format
formats_on holder v ps = map (λ p. p.format (context_in holder v p.needs)) ps

-- what holds tags, and what is after it, are one part, after those before
abbrev pub after_row : List Format → Format → Format
after_row [] f = f
after_row (b ∷ bs) f = pair_format (row (b ∷ bs)) f

abbrev pub holding : (before : List Format) → List Piece → Tree → Format
holding before [] c = row before
holding before (p ∷ ps) c = elim (decides p ps) as (λ b. Format) [
  | true ↦ after_row before (then_format (p.format c) (λ v. row (formats_on p v ps)))
  | false ↦ holding (before ++ p.format c ∷ []) ps c
]

abbrev pub has_holder : List Piece → Bool
has_holder ps = nat_lt (count_before ps) (length ps)

abbrev pub struct_format : (is_borrowed : Bool) → List Piece → Tree → Format
struct_format true ps c = elim (has_holder ps) as (λ b. Format) [ true ↦ holding [] ps c | false ↦ borrowed_row (map (λ p. p.is_borrowed) ps) (formats_in c ps) ]
struct_format false ps c = holding [] ps c

-- ---- where a struct has a tag

-- the part at `at` of n in a row
abbrev nth : (n at : ℕ) → Tree → Tree
nth n at v = elim (nat_lt n 2) as (λ b. Tree) [ true ↦ v | false ↦ elim (at == 0) as (λ b. Tree) [ true ↦ first_of v | false ↦ elim (at == 1) as (λ b. Tree) [ true ↦ second_of v | false ↦ third_of v ] ] ]

-- the part at `at` of n in the groups of these sizes; the last group has the others
abbrev in_group : (inside : (n at : ℕ) → Tree → Tree) → (groups n : ℕ) → (group at : ℕ) → List ℕ → Tree → Tree
in_group inside groups n group at [] v = inside n at (nth groups group v)
in_group inside groups n group at (size ∷ sizes) v = elim (nat_lt at size) as (λ b. Tree) [
  | true ↦ inside size at (nth groups group v)
  | false ↦ in_group inside groups (n - size) (group + 1) (at - size) sizes v
]

abbrev in_cuts : (inside : (n at : ℕ) → Tree → Tree) → (n at : ℕ) → Tree → Tree
in_cuts inside n at v = in_group inside (length (cuts n) + 1) n 0 at (cuts n) v

abbrev place_in_row : (n at : ℕ) → Tree → Tree
place_in_row n at v = in_cuts (λ m i u. in_cuts nth m i u) n at v

-- among the pieces before one that holds tags, or that one
abbrev place : (n before at : ℕ) → Tree → Tree
place n before at v = elim (nat_lt before n) as (λ b. Tree) [
  | false ↦ place_in_row n at v
  | true ↦ elim (nat_lt at before) as (λ b. Tree) [
    | true ↦ place_in_row before at (first_of v)
    | false ↦ elim (before == 0) as (λ b. Tree) [ true ↦ first_of v | false ↦ first_of (second_of v) ]
  ]
]

abbrev held_from : (n before at : ℕ) → Key → List Piece → Option (Tree → Tree)
held_from n before at key [] = None
held_from n before at key (p ∷ ps) = elim (p.holds key) as (λ h. Option (Tree → Tree)) [
  | None ↦ held_from n before (at + 1) key ps
  | Some inner ↦ Some (λ v. inner (place n before at v))
]

abbrev pub held : List Piece → Key → Option (Tree → Tree)
held ps key = held_from (length ps) (count_before ps) 0 key ps

abbrev has_need : List Piece → Option Key → Bool
has_need [] key = false
has_need (p ∷ ps) key = holds_need p key || has_need ps key

-- what one of its pieces depends on, and none of them has
abbrev pub needed : (all : List Piece) → List Piece → Option Key
needed all [] = None
needed all (p ∷ ps) = elim (is_there p.needs && not (has_need all p.needs)) as (λ b. Option Key) [ true ↦ p.needs | false ↦ needed all ps ]
