-- What is left of a list keeps what holds of each element, and keys that differ.
use Rattle.std.proofs.Common.{◌≡◌, List, [], ◌∷◌, Bool, true, false, sym, subst, map}
use Rattle.std.specs.List.{All, AllByRecursion, IsDistinct, items_where_true}
use Rattle.std.specs.List.Retain.{IsFiltered}
use Rattle.std.specs.String.{string_eq}
use Rattle.std.proofs.lemmas.List.Elements.{All-nil, All-cons, All-head, All-tail, All-same}
use Rattle.tlsgen_model.specs.Writable.{HaveModules}
use Rattle.tlsgen_model.specs.declared.plan.Message.{Message}

all_where_true : {X : Type 0} (P : X → Type 0) (bs : List Bool) (xs : List X) → All P xs → All P (items_where_true bs xs)
all_where_true P [] xs h = All-nil P
all_where_true P (b ∷ bs) [] h = All-nil P
all_where_true P (true ∷ bs) (x ∷ xs) h = All-cons P x _ (All-head P x xs h) (all_where_true P bs xs (All-tail P x xs h))
all_where_true P (false ∷ bs) (x ∷ xs) h = all_where_true P bs xs (All-tail P x xs h)

pub kept_all : {X F : Type 0} (R : F → X → Bool → F → Type 0) (P : X → Type 0) (f : F) (xs ys : List X) → IsFiltered R f xs ys → All P xs → All P ys
kept_all R P f xs ys (bs, q, same, turns, is) h = All-same P ys _ is (all_where_true P bs xs h)

each_where_true : {X K : Type 0} (P : K → Type 0) (key : X → K) (bs : List Bool) (xs : List X) → AllByRecursion P (map key xs) → AllByRecursion P (map key (items_where_true bs xs))
each_where_true P key [] xs h = tt
each_where_true P key (b ∷ bs) [] h = tt
each_where_true P key (true ∷ bs) (x ∷ xs) h = (h.0, each_where_true P key bs xs h.1)
each_where_true P key (false ∷ bs) (x ∷ xs) h = each_where_true P key bs xs h.1

distinct_where_true : {X K : Type 0} (eq : K → K → Bool) (key : X → K) (bs : List Bool) (xs : List X) → IsDistinct eq (map key xs) → IsDistinct eq (map key (items_where_true bs xs))
unfolding IsDistinct
distinct_where_true eq key [] xs h = tt
distinct_where_true eq key (b ∷ bs) [] h = tt
distinct_where_true eq key (true ∷ bs) (x ∷ xs) h =
    (each_where_true (λ y. eq (key x) y ≡ false) key bs xs h.0, distinct_where_true eq key bs xs h.1)
distinct_where_true eq key (false ∷ bs) (x ∷ xs) h = distinct_where_true eq key bs xs h.1

pub kept_modules : {F : Type 0} (R : F → Message → Bool → F → Type 0) (f : F) (xs ys : List Message) → IsFiltered R f xs ys → HaveModules xs → HaveModules ys
kept_modules R f xs ys (bs, q, same, turns, is) h =
    let P : List Message → Type 0 = HaveModules in
    subst P (sym is) (distinct_where_true string_eq (λ message. message.module) bs xs h)
