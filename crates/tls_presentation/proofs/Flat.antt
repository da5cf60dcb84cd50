-- Parts in groups have the bytes of the parts one after another.
use Rattle.std.proofs.Common.{◌≡◌, ℕ, zero, suc, List, [], ◌∷◌, ◌++◌, length, take, drop, refl, sym, ap, subst, ◌+◌, ◌/◌, ◌∙◌, append_assoc}
use Rattle.std.specs.Prelude.{◌↔◌, Bool, true, false}
use Rattle.tls_codec_grammar.specs.Tree.{Tree, Empty, Join}
use Rattle.tls_codec_grammar.specs.Grammar.{Direction, Concat, Counted}
use Rattle.tls_codec_grammar.specs.Format.{Format}
use Rattle.tls_presentation.specs.Rows.{chain, pack, cuts, in_groups, group, row, row_of, case_row, borrowed_cuts, borrowed_row, any}
use Rattle.tls_presentation.specs.Says.{in_row}

-- ---- what values stand for, in the same groups

abbrev chain_trees : List Tree → Tree
chain_trees [] = Empty
chain_trees (t ∷ ts) = Join t (chain_trees ts)

abbrev pack_trees : List Tree → Tree
pack_trees [] = Empty
pack_trees (t ∷ []) = t
pack_trees (t ∷ u ∷ more) = Join t (chain_trees (u ∷ more))

abbrev tree_groups : (List Tree → Tree) → List ℕ → List Tree → List Tree
tree_groups inside [] ts = inside ts ∷ []
tree_groups inside (n ∷ ns) ts = inside (take n ts) ∷ tree_groups inside ns (drop n ts)

abbrev group_tree : List Tree → Tree
group_tree ts = pack_trees (tree_groups pack_trees (cuts (length ts)) ts)

abbrev pub tree_row_of : List ℕ → List Tree → Tree
tree_row_of sizes ts = pack_trees (tree_groups group_tree sizes ts)

abbrev pub tree_row : List Tree → Tree
tree_row ts = tree_row_of (cuts (length ts)) ts

abbrev pub tree_case_row : List Tree → Tree
tree_case_row [] = Empty
tree_case_row (t ∷ []) = Join t Empty
tree_case_row (t ∷ u ∷ more) = tree_row_of ((length (t ∷ u ∷ more) + 1) / 2 ∷ []) (t ∷ u ∷ more)

abbrev pub tree_borrowed_row : List Bool → List Tree → Tree
tree_borrowed_row are_borrowed ts = elim (any are_borrowed) as (λ b. Tree) [ true ↦ tree_row_of (borrowed_cuts 0 are_borrowed) ts | false ↦ tree_row ts ]

-- ---- as many trees as formats

abbrev pub Flat : Format → Tree → List Format → List Tree → Type 0
Flat f t fs ts = (d : Direction) (b : List ℕ) → f.spells d b t ↔ in_row fs ts d b

abbrev pub SameLength : List Format → List Tree → Type 0
SameLength [] [] = Unit {0}
SameLength [] (t ∷ ts) = ⊥
SameLength (f ∷ fs) [] = ⊥
SameLength (f ∷ fs) (t ∷ ts) = SameLength fs ts

-- ---- rows

pub compose : {A B C : Type 0} → A ↔ B → B ↔ C → A ↔ C
compose f g = (λ p. g.0 (f.0 p), λ p. f.1 (g.1 p))

pub concat_iff : {F G F2 G2 : List ℕ → Type 0} (b : List ℕ) → ((s : List ℕ) → F s ↔ F2 s) → ((s : List ℕ) → G s ↔ G2 s) → Concat b F G ↔ Concat b F2 G2
concat_iff b f g = (
  λ p. record { front = p.front; rest = p.rest; whole = p.whole; first = (f p.front).0 p.first; second = (g p.rest).0 p.second },
  λ p. record { front = p.front; rest = p.rest; whole = p.whole; first = (f p.front).1 p.first; second = (g p.rest).1 p.second },
)

pub counted_iff : {field : List ℕ → ℕ → Type 0} {F G : List ℕ → Type 0} (b : List ℕ) → ((s : List ℕ) → F s ↔ G s) → Counted field b F ↔ Counted field b G
counted_iff b f = (
  λ p. record { count = p.count; inside = p.inside; whole = p.whole; counts = p.counts; is_inside = (f p.inside).0 p.is_inside },
  λ p. record { count = p.count; inside = p.inside; whole = p.whole; counts = p.counts; is_inside = (f p.inside).1 p.is_inside },
)

concat_assoc : (F G H : List ℕ → Type 0) (b : List ℕ) → Concat b (λ s. Concat s F G) H ↔ Concat b F (λ s. Concat s G H)
concat_assoc F G H b = (
  λ p. record {
    front = p.first.front;
    rest = p.first.rest ++ p.rest;
    whole = p.whole ∙ ap (λ (u : List ℕ). u ++ p.rest) p.first.whole ∙ append_assoc p.first.front p.first.rest p.rest;
    first = p.first.first;
    second = record { front = p.first.rest; rest = p.rest; whole = refl; first = p.first.second; second = p.second };
  },
  λ p. record {
    front = p.front ++ p.second.front;
    rest = p.second.rest;
    whole = p.whole ∙ ap (λ (u : List ℕ). p.front ++ u) p.second.whole ∙ sym (append_assoc p.front p.second.front p.second.rest);
    first = record { front = p.front; rest = p.second.front; whole = refl; first = p.first; second = p.second.first };
    second = p.second.second;
  },
)

append_nil : (b : List ℕ) → b ++ [] ≡ b
append_nil [] = refl
append_nil (x ∷ xs) = ap (λ (u : List ℕ). x ∷ u) (append_nil xs)

-- nothing after a part, and before one
pub concat_end : (F : List ℕ → Type 0) (b : List ℕ) → F b ↔ Concat b F (λ s. s ≡ [])
concat_end F b = (
  λ p. record { front = b; rest = []; whole = sym (append_nil b); first = p; second = refl },
  λ p. subst F (sym (p.whole ∙ ap (λ (u : List ℕ). p.front ++ u) p.second ∙ append_nil p.front)) p.first,
)

concat_begin : (F : List ℕ → Type 0) (b : List ℕ) → F b ↔ Concat b (λ s. s ≡ []) F
concat_begin F b = (
  λ p. record { front = []; rest = b; whole = refl; first = refl; second = p },
  λ p. subst F (sym (p.whole ∙ ap (λ (u : List ℕ). u ++ p.rest) p.first)) p.second,
)

pub same_iff : {A : Type 0} → A ↔ A
same_iff = (λ p. p, λ p. p)

pub flip : {A B : Type 0} → A ↔ B → B ↔ A
flip f = (f.1, f.0)

-- ---- the first parts, and the others

split_row : (n : ℕ) (fs : List Format) (ts : List Tree) → SameLength fs ts → (d : Direction) (b : List ℕ) → Concat b (λ s. in_row (take n fs) (take n ts) d s) (λ s. in_row (drop n fs) (drop n ts) d s) ↔ in_row fs ts d b
split_row zero fs ts l d b = flip (concat_begin (λ s. in_row fs ts d s) b)
split_row (suc n) [] [] l d b = flip (concat_begin (λ s. s ≡ []) b)
split_row (suc n) [] (t ∷ ts) l d b = absurd l
split_row (suc n) (f ∷ fs) [] l d b = absurd l
split_row (suc n) (f ∷ fs) (t ∷ ts) l d b =
    compose (concat_assoc (λ s. f.spells d s t) (λ s. in_row (take n fs) (take n ts) d s) (λ s. in_row (drop n fs) (drop n ts) d s) b)
    (concat_iff b (λ s. same_iff) (λ s. split_row n fs ts l d s))

take_same : (n : ℕ) (fs : List Format) (ts : List Tree) → SameLength fs ts → SameLength (take n fs) (take n ts)
take_same zero fs ts l = tt
take_same (suc n) [] [] l = tt
take_same (suc n) [] (t ∷ ts) l = absurd l
take_same (suc n) (f ∷ fs) [] l = absurd l
take_same (suc n) (f ∷ fs) (t ∷ ts) l = take_same n fs ts l

drop_same : (n : ℕ) (fs : List Format) (ts : List Tree) → SameLength fs ts → SameLength (drop n fs) (drop n ts)
drop_same zero fs ts l = l
drop_same (suc n) [] [] l = tt
drop_same (suc n) [] (t ∷ ts) l = absurd l
drop_same (suc n) (f ∷ fs) [] l = absurd l
drop_same (suc n) (f ∷ fs) (t ∷ ts) l = drop_same n fs ts l

same_count : (fs : List Format) (ts : List Tree) → SameLength fs ts → length ts ≡ length fs
same_count [] [] l = refl
same_count [] (t ∷ ts) l = absurd l
same_count (f ∷ fs) [] l = absurd l
same_count (f ∷ fs) (t ∷ ts) l = ap suc (same_count fs ts l)

-- ---- groups

groups_flat : (inside : List Format → Format) (trees : List Tree → Tree) → ((fs : List Format) (ts : List Tree) → SameLength fs ts → Flat (inside fs) (trees ts) fs ts) → (ns : List ℕ) (fs : List Format) (ts : List Tree) → SameLength fs ts → (d : Direction) (b : List ℕ) → in_row (in_groups inside ns fs) (tree_groups trees ns ts) d b ↔ in_row fs ts d b
groups_flat inside trees h [] fs ts l d b = compose (flip (concat_end (λ s. (inside fs).spells d s (trees ts)) b)) (h fs ts l d b)
groups_flat inside trees h (n ∷ ns) fs ts l d b =
    compose (concat_iff b (λ s. h (take n fs) (take n ts) (take_same n fs ts l) d s) (λ s. groups_flat inside trees h ns (drop n fs) (drop n ts) (drop_same n fs ts l) d s))
    (split_row n fs ts l d b)

groups_same : (inside : List Format → Format) (trees : List Tree → Tree) (ns : List ℕ) (fs : List Format) (ts : List Tree) → SameLength (in_groups inside ns fs) (tree_groups trees ns ts)
groups_same inside trees [] fs ts = tt
groups_same inside trees (n ∷ ns) fs ts = groups_same inside trees ns (drop n fs) (drop n ts)

chain_flat : (fs : List Format) (ts : List Tree) → SameLength fs ts → Flat (chain fs) (chain_trees ts) fs ts
chain_flat [] [] l d b = same_iff
chain_flat [] (t ∷ ts) l d b = absurd l
chain_flat (f ∷ fs) [] l d b = absurd l
chain_flat (f ∷ fs) (t ∷ ts) l d b = concat_iff b (λ s. same_iff) (λ s. chain_flat fs ts l d s)

pack_flat : (fs : List Format) (ts : List Tree) → SameLength fs ts → Flat (pack fs) (pack_trees ts) fs ts
pack_flat [] [] l d b = same_iff
pack_flat [] (t ∷ ts) l d b = absurd l
pack_flat (f ∷ fs) [] l d b = absurd l
pack_flat (f ∷ []) (t ∷ []) l d b = concat_end (λ s. f.spells d s t) b
pack_flat (f ∷ []) (t ∷ u ∷ us) l d b = absurd l
pack_flat (f ∷ g ∷ gs) (t ∷ []) l d b = absurd l
pack_flat (f ∷ g ∷ gs) (t ∷ u ∷ us) l d b = concat_iff b (λ s. same_iff) (λ s. chain_flat (g ∷ gs) (u ∷ us) l d s)

grouped_flat : (inside : List Format → Format) (trees : List Tree → Tree) → ((fs : List Format) (ts : List Tree) → SameLength fs ts → Flat (inside fs) (trees ts) fs ts) → (ns : List ℕ) (fs : List Format) (ts : List Tree) → SameLength fs ts → Flat (pack (in_groups inside ns fs)) (pack_trees (tree_groups trees ns ts)) fs ts
grouped_flat inside trees h ns fs ts l d b =
    compose (pack_flat (in_groups inside ns fs) (tree_groups trees ns ts) (groups_same inside trees ns fs ts) d b) (groups_flat inside trees h ns fs ts l d b)

group_flat : (fs : List Format) (ts : List Tree) → SameLength fs ts → Flat (group fs) (group_tree ts) fs ts
group_flat fs ts l = subst (λ (n : ℕ). Flat (group fs) (pack_trees (tree_groups pack_trees (cuts n) ts)) fs ts) (sym (same_count fs ts l)) (grouped_flat pack pack_trees pack_flat (cuts (length fs)) fs ts l)

pub row_of_flat : (sizes : List ℕ) (fs : List Format) (ts : List Tree) → SameLength fs ts → Flat (row_of sizes fs) (tree_row_of sizes ts) fs ts
row_of_flat sizes fs ts l = grouped_flat group group_tree group_flat sizes fs ts l

pub row_flat : (fs : List Format) (ts : List Tree) → SameLength fs ts → Flat (row fs) (tree_row ts) fs ts
row_flat fs ts l = subst (λ (n : ℕ). Flat (row fs) (tree_row_of (cuts n) ts) fs ts) (sym (same_count fs ts l)) (row_of_flat (cuts (length fs)) fs ts l)

either_flat : (borrowed : Bool) (are_borrowed : List Bool) (fs : List Format) (ts : List Tree) → SameLength fs ts → Flat (elim borrowed as (λ b. Format) [ true ↦ row_of (borrowed_cuts 0 are_borrowed) fs | false ↦ row fs ]) (elim borrowed as (λ b. Tree) [ true ↦ tree_row_of (borrowed_cuts 0 are_borrowed) ts | false ↦ tree_row ts ]) fs ts
either_flat true are_borrowed fs ts l = row_of_flat (borrowed_cuts 0 are_borrowed) fs ts l
either_flat false are_borrowed fs ts l = row_flat fs ts l

pub borrowed_row_flat : (are_borrowed : List Bool) (fs : List Format) (ts : List Tree) → SameLength fs ts → Flat (borrowed_row are_borrowed fs) (tree_borrowed_row are_borrowed ts) fs ts
borrowed_row_flat are_borrowed fs ts l = either_flat (any are_borrowed) are_borrowed fs ts l

pub case_row_flat : (fs : List Format) (ts : List Tree) → SameLength fs ts → Flat (case_row fs) (tree_case_row ts) fs ts
case_row_flat [] [] l d b = same_iff
case_row_flat [] (t ∷ ts) l d b = absurd l
case_row_flat (f ∷ fs) [] l d b = absurd l
case_row_flat (f ∷ []) (t ∷ []) l d b = same_iff
case_row_flat (f ∷ []) (t ∷ u ∷ us) l d b = absurd l
case_row_flat (f ∷ g ∷ gs) (t ∷ []) l d b = absurd l
case_row_flat (f ∷ g ∷ gs) (t ∷ u ∷ us) l d b =
    subst (λ (n : ℕ). (case_row (f ∷ g ∷ gs)).spells d b (tree_row_of ((n + 1) / 2 ∷ []) (t ∷ u ∷ us)) ↔ in_row (f ∷ g ∷ gs) (t ∷ u ∷ us) d b)
    (sym (same_count (f ∷ g ∷ gs) (t ∷ u ∷ us) l))
    (row_of_flat ((length (f ∷ g ∷ gs) + 1) / 2 ∷ []) (f ∷ g ∷ gs) (t ∷ u ∷ us) l d b)

-- ---- two rows as one

pub row_nil : (fs : List Format) (ts : List Tree) → SameLength fs ts → (d : Direction) (b : List ℕ) → in_row fs ts d b ↔ in_row (fs ++ []) (ts ++ []) d b
row_nil [] [] l d b = same_iff
row_nil [] (t ∷ ts) l d b = absurd l
row_nil (f ∷ fs) [] l d b = absurd l
row_nil (f ∷ fs) (t ∷ ts) l d b = concat_iff b (λ s. same_iff) (λ s. row_nil fs ts l d s)

pub row_snoc : (fs : List Format) (ts : List Tree) (f : Format) (t : Tree) (gs : List Format) (us : List Tree) → SameLength fs ts → (d : Direction) (b : List ℕ) → in_row ((fs ++ f ∷ []) ++ gs) ((ts ++ t ∷ []) ++ us) d b ↔ in_row (fs ++ f ∷ gs) (ts ++ t ∷ us) d b
row_snoc [] [] f t gs us l d b = same_iff
row_snoc [] (u ∷ ts) f t gs us l d b = absurd l
row_snoc (g ∷ fs) [] f t gs us l d b = absurd l
row_snoc (g ∷ fs) (u ∷ ts) f t gs us l d b = concat_iff b (λ s. same_iff) (λ s. row_snoc fs ts f t gs us l d s)

pub rows_append : (fs : List Format) (ts : List Tree) (gs : List Format) (us : List Tree) → SameLength fs ts → (d : Direction) (b : List ℕ) → Concat b (λ s. in_row fs ts d s) (λ s. in_row gs us d s) ↔ in_row (fs ++ gs) (ts ++ us) d b
rows_append [] [] gs us l d b = flip (concat_begin (λ s. in_row gs us d s) b)
rows_append [] (t ∷ ts) gs us l d b = absurd l
rows_append (f ∷ fs) [] gs us l d b = absurd l
rows_append (f ∷ fs) (t ∷ ts) gs us l d b =
    compose (concat_assoc (λ s. f.spells d s t) (λ s. in_row fs ts d s) (λ s. in_row gs us d s) b) (concat_iff b (λ s. same_iff) (λ s. rows_append fs ts gs us l d s))
