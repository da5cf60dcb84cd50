-- The signs of a list that one more is put behind.
use Rattle.std.proofs.Common.{◌≡◌, ◌<◌, ℕ, zero, suc, List, [], ◌∷◌, ◌++◌, get_or, set, length, refl, ap, sym, ◌∙◌, arith}
use Rattle.tlsgen_syntax.specs.declared.token.Mark.{Mark}
use Rattle.tlsgen_syntax.specs.declared.token.Token.{Token}
use Rattle.tlsgen_syntax.specs.declared.syntax.Field.{Field}
use Rattle.tlsgen_syntax.specs.Signs.{Sign, mark, sign_of, signs, each_then, separated_then, case_fields_then, case_field_then}

pub gathered_each : {A : Type 0} (one : A → List Sign → List Sign) (xs : List A) (x : A) (rest : List Sign) → each_then one (xs ++ x ∷ []) rest ≡ each_then one xs (one x rest)
gathered_each one [] x rest = refl
gathered_each one (y ∷ ys) x rest = ap (one y) (gathered_each one ys x rest)

pub gathered_separated : {A : Type 0} (m : Mark) (one : A → List Sign → List Sign) (xs : List A) (x : A) (rest : List Sign) → 0 < length xs → separated_then m one (xs ++ x ∷ []) rest ≡ separated_then m one xs (mark m ∷ one x rest)
gathered_separated m one [] x rest some = absurd (omega arith)
gathered_separated m one (y ∷ ys) x rest some = ap (one y) (gathered_each (λ z others. mark m ∷ one z others) ys x rest)

-- lists that say the same do so with one more that says the same
pub gathered_both : {A B : Type 0} (m : Mark) (one : A → List Sign → List Sign) (two : B → List Sign → List Sign) (xs : List A) (ys : List B) (x : A) (y : B) → length xs ≡ length ys → ((rest : List Sign) → separated_then m one xs rest ≡ separated_then m two ys rest) → ((rest : List Sign) → one x rest ≡ two y rest) → (rest : List Sign) → separated_then m one (xs ++ x ∷ []) rest ≡ separated_then m two (ys ++ y ∷ []) rest
gathered_both m one two [] [] x y count same last rest = last rest
gathered_both m one two [] (v ∷ vs) x y count same last rest = absurd (omega (arith, count))
gathered_both m one two (u ∷ us) [] x y count same last rest = absurd (omega (arith, count))
gathered_both m one two (u ∷ us) (v ∷ vs) x y count same last rest =
    gathered_separated m one (u ∷ us) x rest (omega arith) ∙ ap (λ s. separated_then m one (u ∷ us) (mark m ∷ s)) (last rest) ∙
    same (mark m ∷ two y rest) ∙ sym (gathered_separated m two (v ∷ vs) y rest (omega arith))

pub gathered_case_fields : (fs : List Field) (f : Field) (rest : List Sign) → 0 < length fs → case_fields_then (fs ++ f ∷ []) rest ≡ case_fields_then fs (case_field_then f rest)
gathered_case_fields [] f rest some = absurd (omega arith)
gathered_case_fields (g ∷ gs) f rest some = ap (case_field_then g) (gathered_each case_field_then gs f rest)

-- no token is left
pub signs_of_none : (tokens : List Token) → length tokens ≡ 0 → signs tokens ≡ []
signs_of_none [] none = refl
signs_of_none (t ∷ ts) none = absurd (omega arith)

-- a token in the place of another with the same sign
pub signs_of_set : (ts : List Token) (i : ℕ) (a b : Token) → a ≡ get_or ts i a → sign_of b.kind ≡ sign_of a.kind → signs (set ts i b) ≡ signs ts
signs_of_set [] i a b at same = refl
signs_of_set (t ∷ ts) zero a b at same = ap (λ s. s ∷ signs ts) (same ∙ ap (λ (x : Token). sign_of x.kind) at)
signs_of_set (t ∷ ts) (suc i) a b at same = ap (λ rest. sign_of t.kind ∷ rest) (signs_of_set ts i a b at same)
