-- Parts one after another (RFC 8446, section 3.6), and cases (section 3.8), in the groups in which
-- written messages have them: more than three parts are read as groups of two or three, and cases
-- that are values nest evenly. This says nothing about the bytes (`proofs/Flat`).
use Rattle.std.specs.Prelude.{ℕ, zero, suc, List, [], ◌∷◌, Bool, true, false, ◌+◌, ◌-◌, ◌/◌, length, take, drop, nat_lt, replicate}
use Rattle.tls_codec_grammar.specs.Format.{Format, nothing_format, fields_format}
use Rattle.tls_codec_grammar.specs.Tagged.{Variants, no_variant}
use Rattle.tls_codec_cases.specs.Sums.{either_variants}

-- ---- rows

abbrev pub chain : List Format → Format
chain [] = nothing_format
chain (f ∷ fs) = fields_format f (chain fs)

-- one part alone is itself
abbrev pub pack : List Format → Format
pack [] = nothing_format
pack (f ∷ []) = f
pack (f ∷ g ∷ more) = fields_format f (chain (g ∷ more))

-- how many of n parts go into each group but the last
abbrev pub cuts : ℕ → List ℕ
cuts n = elim (nat_lt n 4) as (λ b. List ℕ) [ true ↦ replicate (n - 1) 1 | false ↦ elim (nat_lt n 7) as (λ b. List ℕ) [ true ↦ (n + 1) / 2 ∷ [] | false ↦ (n + 2) / 3 ∷ (n + 1) / 3 ∷ [] ] ]

abbrev pub in_groups : (List Format → Format) → List ℕ → List Format → List Format
in_groups inside [] fs = inside fs ∷ []
in_groups inside (n ∷ ns) fs = inside (take n fs) ∷ in_groups inside ns (drop n fs)

-- a group, and groups of these sizes
abbrev pub group : List Format → Format
group fs = pack (in_groups pack (cuts (length fs)) fs)

abbrev pub row_of : List ℕ → List Format → Format
row_of sizes fs = pack (in_groups group sizes fs)

abbrev pub row : List Format → Format
row fs = row_of (cuts (length fs)) fs

-- what comes after a tag, in two groups
abbrev pub case_row : List Format → Format
case_row [] = nothing_format
case_row (f ∷ []) = fields_format f nothing_format
case_row (f ∷ g ∷ more) = row_of ((length (f ∷ g ∷ more) + 1) / 2 ∷ []) (f ∷ g ∷ more)

-- The groups of a struct of references: each part that is borrowed itself is one, and so are the others between, up to nine. `seen` are
-- those of the last group.
abbrev pub borrowed_cuts : (seen : ℕ) → List Bool → List ℕ
borrowed_cuts seen [] = []
borrowed_cuts zero (true ∷ []) = []
borrowed_cuts zero (true ∷ b ∷ more) = 1 ∷ borrowed_cuts zero (b ∷ more)
borrowed_cuts (suc seen) (true ∷ []) = suc seen ∷ []
borrowed_cuts (suc seen) (true ∷ b ∷ more) = suc seen ∷ 1 ∷ borrowed_cuts zero (b ∷ more)
borrowed_cuts seen (false ∷ more) = elim (nat_lt seen 9) as (λ b. List ℕ) [ true ↦ borrowed_cuts (seen + 1) more | false ↦ seen ∷ borrowed_cuts 1 more ]

abbrev pub any : List Bool → Bool
any [] = false
any (true ∷ more) = true
any (false ∷ more) = any more

abbrev pub borrowed_row : List Bool → List Format → Format
borrowed_row are_borrowed fs = elim (any are_borrowed) as (λ b. Format) [ true ↦ row_of (borrowed_cuts 0 are_borrowed) fs | false ↦ row fs ]

-- ---- cases as values

abbrev pub halved : List Variants → List Variants
halved [] = []
halved (v ∷ []) = v ∷ []
halved (v ∷ w ∷ more) = either_variants v w ∷ halved more

abbrev pub nested : (steps : ℕ) → List Variants → Variants
nested steps [] = no_variant
nested steps (v ∷ []) = v
nested zero (v ∷ w ∷ more) = v
nested (suc steps) (v ∷ w ∷ more) = nested steps (halved (v ∷ w ∷ more))

abbrev pub one_of : List Variants → Variants
one_of cases = nested (length cases) cases
