-- Lists whose elements have keys that differ.
use Rattle.std.proofs.Common.{◌≡◌, List, [], ◌∷◌, ◌++◌, Bool, false, ◌||◌, refl, sym, ◌∙◌, ap, subst, map, nat_eq, true, cond}
use Rattle.std.specs.Cmp.{IsEquivalence, nat_eq_equiv}
use Rattle.std.specs.List.{IsDistinct, list_any}
use Rattle.std.specs.String.{string_eq, string_eq_equiv}
use Rattle.std.proofs.lemmas.Map.Keys.{IsDistinct-push}
use Rattle.std.proofs.lemmas.List.{map-append}
use Rattle.tlsgen_model.specs.Writable.{HaveModules, HaveNames, HaveNumbers, HaveTags, HaveValueNames, HaveVariantNames}
use Rattle.tlsgen_model.specs.declared.plan.Member.{Member}
use Rattle.tlsgen_model.specs.declared.plan.Message.{Message}
use Rattle.tlsgen_model.specs.declared.plan.Value.{Value}
use Rattle.tlsgen_model.specs.declared.plan.Variant.{Variant}

-- a test of the keys
any-map : {X K : Type 0} (test : K → Bool) (key : X → K) (xs : List X) → list_any test (map key xs) ≡ list_any (λ x. test (key x)) xs
any-map test key [] = refl
any-map test key (x ∷ xs) = ap (λ b. test (key x) || b) (any-map test key xs)

-- one more element, whose key none has
keys_push : {X K : Type 0} {eq : K → K → Bool} → IsEquivalence eq → (key : X → K) (xs : List X) (x : X) → IsDistinct eq (map key xs) → list_any (λ y. eq (key x) (key y)) xs ≡ false → IsDistinct eq (map key (xs ++ x ∷ []))
keys_push {X} {K} {eq} laws key xs x distinct none =
    let P : List K → Type 0 = IsDistinct eq in
    subst P (sym (map-append key xs (x ∷ []))) (IsDistinct-push laws (map key xs) (key x) distinct (any-map (eq (key x)) key xs ∙ none))

pub names_none : HaveNames []
unfolding IsDistinct
names_none = tt

pub modules_none : HaveModules []
unfolding IsDistinct
modules_none = tt

pub value_names_none : HaveValueNames []
unfolding IsDistinct
value_names_none = tt

pub variant_names_none : HaveVariantNames []
unfolding IsDistinct
variant_names_none = tt

pub numbers_none : HaveNumbers []
unfolding IsDistinct
numbers_none = tt

pub tags_none : HaveTags []
unfolding IsDistinct
tags_none = tt

pub names_push : (xs : List Member) (x : Member) → HaveNames xs → list_any (λ y. string_eq x.name y.name) xs ≡ false → HaveNames (xs ++ x ∷ [])
names_push = keys_push string_eq_equiv (λ x. x.name)

pub numbers_push : (xs : List Value) (x : Value) → HaveNumbers xs → list_any (λ y. nat_eq x.number y.number) xs ≡ false → HaveNumbers (xs ++ x ∷ [])
numbers_push = keys_push nat_eq_equiv (λ x. x.number)

pub tags_push : (xs : List Variant) (x : Variant) → HaveTags xs → list_any (λ y. nat_eq x.tag y.tag) xs ≡ false → HaveTags (xs ++ x ∷ [])
tags_push = keys_push nat_eq_equiv (λ x. x.tag)

pub value_names_push : (xs : List Value) (x : Value) → HaveValueNames xs → list_any (λ y. string_eq x.name y.name) xs ≡ false → HaveValueNames (xs ++ x ∷ [])
value_names_push = keys_push string_eq_equiv (λ x. x.name)

pub variant_names_push : (xs : List Variant) (x : Variant) → HaveVariantNames xs → list_any (λ y. string_eq x.name y.name) xs ≡ false → HaveVariantNames (xs ++ x ∷ [])
variant_names_push = keys_push string_eq_equiv (λ x. x.name)

pub modules_push : (xs : List Message) (x : Message) → HaveModules xs → list_any (λ y. string_eq x.module y.module) xs ≡ false → HaveModules (xs ++ x ∷ [])
modules_push = keys_push string_eq_equiv (λ x. x.module)

-- one more, if there is memory for it
pub modules_more : (xs after : List Message) (x : Message) (is_added : Bool) → HaveModules xs → list_any (λ y. string_eq x.module y.module) xs ≡ false → after ≡ cond is_added (xs ++ x ∷ []) xs → HaveModules after
modules_more xs after x true distinct none is =
    let P : List Message → Type 0 = HaveModules in
    subst P (sym is) (modules_push xs x distinct none)
modules_more xs after x false distinct none is =
    let P : List Message → Type 0 = HaveModules in
    subst P (sym is) distinct
