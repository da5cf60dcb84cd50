-- What holds of the type of a name, from what else holds of it.
use Rattle.std.proofs.Common.{Bool, true, false, cond, ℕ, List, [], ◌∷◌, bytes_eq}
use Rattle.tlsdump.specs.Kinds.{FirstNamed, Kind}

by_cond : (b : Bool) {X X' X'' Y Y' Y'' : Type 0} → (X → X' → X'') → (Y → Y' → Y'') → cond b X Y → cond b X' Y' → cond b X'' Y''
by_cond true f g x x' = f x x'
by_cond false f g y y' = g y y'

-- what follows from both
pub of_both : (ks : List Kind) (name : List ℕ) {H H' H'' : Kind → Type 0} {E E' E'' : Type 0} → ((k : Kind) → H k → H' k → H'' k)
    → (E → E' → E'') → FirstNamed ks name H E → FirstNamed ks name H' E' → FirstNamed ks name H'' E''
of_both [] name f g e e' = g e e'
of_both (k ∷ ks) name f g h h' = by_cond (bytes_eq name k.name) (f k) (of_both ks name f g) h h'

-- what follows from one
pub of_one : (ks : List Kind) (name : List ℕ) {H H' : Kind → Type 0} {E E' : Type 0} → ((k : Kind) → H k → H' k) → (E → E')
    → FirstNamed ks name H E → FirstNamed ks name H' E'
of_one ks name f g h = of_both ks name (λ k x y. f k x) (λ x y. g x) h h

-- what always holds
pub of_each : (ks : List Kind) (name : List ℕ) {H : Kind → Type 0} {E : Type 0} → ((k : Kind) → H k) → E → FirstNamed ks name H E
of_each [] name h e = e
of_each (k ∷ ks) name h e = either (bytes_eq name k.name) (h k) (of_each ks name h e)
  where
    either : (b : Bool) {X Y : Type 0} → X → Y → cond b X Y
    either true x y = x
    either false x y = y
