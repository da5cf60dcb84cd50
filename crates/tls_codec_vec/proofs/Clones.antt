-- Clones that equal what they were made of.
use Rattle.std.proofs.Common.{◌≡◌, List, [], ◌∷◌, ◌++◌, suc, refl, ap, ◌∙◌, arith}
use Rattle.std.specs.List.{AllZip, AppendsClones}
use Rattle.tls_codec_vec.specs.Contents.{ClonesAreEqual}

pub cloned_same : {T : Type 0} (is_clone : T → T → Type 0) (xs ys : List T) → ClonesAreEqual is_clone xs → AllZip is_clone xs ys → ys ≡ xs
cloned_same is_clone [] [] same each = refl
cloned_same is_clone [] (y ∷ ys) same each = absurd each
cloned_same is_clone (x ∷ xs) [] same each = absurd each
cloned_same is_clone (x ∷ xs) (y ∷ ys) same each =
    let first = same 0 x (omega arith) y each.0 in
    let others = cloned_same is_clone xs ys (λ k d below. same (suc k) d (omega (arith, below))) each.1 in
    λ i. first i ∷ others i

-- after no elements, clones of xs are xs
pub appended_same : {T : Type 0} (is_clone : T → T → Type 0) (old new xs : List T) → old ≡ [] → ClonesAreEqual is_clone xs → AppendsClones is_clone old new xs → new ≡ xs
appended_same is_clone old new xs none same clones =
    clones.1 ∙ (ap (λ o. o ++ clones.0) none ∙ cloned_same is_clone xs clones.0 same clones.2)
