-- Values that stand for one tree are equal.
use Rattle.std.proofs.Common.{◌≡◌, Bool, true, List, [], ◌∷◌, ◌&&◌, nat_eq, refl, eq-eqb}
use Rattle.std.specs.Prelude.{ℕ}
use Rattle.std.specs.Cmp.Lexicographic.{pointwise}
use Rattle.tls_codec_grammar.specs.Tree.{Tree, Number, number_trees, trees}
use Rattle.tls_codec_base.specs.Meanings.{EqualWhereAlike}

-- two facts that hold hold together
both : (a b : Bool) → a ≡ true → b ≡ true → (a && b) ≡ true
both a b p q = cc

-- a number is the one that it stands for
pub number_alike : EqualWhereAlike Number nat_eq
number_alike x y e = eq-eqb x y cc

-- lists are equal element by element, if elements are
pub lists_alike : {T : Type 0} (plain : T → Tree) (eq : T → T → Bool) → EqualWhereAlike plain eq
    → (xs ys : List T) → trees plain xs ≡ trees plain ys → pointwise eq xs ys ≡ true
lists_alike plain eq alike [] [] e = refl
lists_alike plain eq alike [] (y ∷ ys) e = absurd cc
lists_alike plain eq alike (x ∷ xs) [] e = absurd cc
lists_alike plain eq alike (x ∷ xs) (y ∷ ys) e =
    both (eq x y) (pointwise eq xs ys) (alike x y cc) (lists_alike plain eq alike xs ys cc)

-- bytes are equal byte by byte
pub bytes_alike : (xs ys : List ℕ) → number_trees xs ≡ number_trees ys → pointwise nat_eq xs ys ≡ true
bytes_alike xs ys e = lists_alike Number nat_eq number_alike xs ys e
