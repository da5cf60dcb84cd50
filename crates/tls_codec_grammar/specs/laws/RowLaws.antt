-- What options, products and contents share: least byte lists, and two of them in a row.
use Rattle.std.proofs.Common.{◌≡◌, ℕ, List, [], ◌∷◌, ◌++◌, length, refl, sym, ap, ◌∙◌, inl, inr, append_assoc, arith, length-append}
use Rattle.std.proofs.lemmas.List.{append_cancel_left}
use Rattle.tls_codec_grammar.specs.Grammar.{Concat}
use Rattle.tls_codec_grammar.specs.Shortest.{IsLeast}

-- if two byte lists agree, fronts of one length are equal, and what comes after them is too
pub split_at : (a b x y : List ℕ) → length a ≡ length b → a ++ x ≡ b ++ y → (a ≡ b) × (x ≡ y)
split_at [] [] x y n e = (refl, e)
split_at [] (b ∷ bs) x y n e = absurd cc
split_at (a ∷ as') [] x y n e = absurd cc
split_at (a ∷ as') (b ∷ bs) x y n e =
    let n2 : length as' ≡ length bs = cc in
    let e2 : as' ++ x ≡ bs ++ y = cc in
    let h = split_at as' bs x y n2 e2 in
    (cc h.0, h.1)

-- two least byte lists are equal
pub least_one : (F : List ℕ → Type 0) (s t : List ℕ) → IsLeast F s → IsLeast F t → s ≡ t
least_one F s t p q =
    elim (p.least t q.spelled) [
      | inl e ↦ sym e
      | inr lt ↦ elim (q.least s p.spelled) [ inl e ↦ e | inr gt ↦ absurd (omega arith) ]
    ]

-- ---- rows

-- an F and a G that begin one byte list are equal, and P holds
abbrev pub Agree : (List ℕ → Type 0) → (List ℕ → Type 0) → Type 0 → Type 0
Agree F G P = (a b x y : List ℕ) → F a → G b → a ++ x ≡ b ++ y → (a ≡ b) × P

-- rows that begin one byte list agree if their parts do
pub row_one : (F G F2 G2 : List ℕ → Type 0) (P Q : Type 0) → Agree F F2 P → Agree G G2 Q → Agree (λ b. Concat b F G) (λ b. Concat b F2 G2) (P × Q)
row_one F G F2 G2 P Q f g s t x y p q e =
    let long : p.front ++ (p.rest ++ x) ≡ q.front ++ (q.rest ++ y) = sym (append_assoc p.front p.rest x) ∙ ap (λ (u : List ℕ). u ++ x) (sym p.whole) ∙ e ∙ ap (λ (u : List ℕ). u ++ y) q.whole ∙ append_assoc q.front q.rest y in
    let h = f p.front q.front (p.rest ++ x) (q.rest ++ y) p.first q.first long in
    let k = g p.rest q.rest x y p.second q.second (append_cancel_left p.front (p.rest ++ x) (q.rest ++ y) (long ∙ ap (λ (u : List ℕ). u ++ (q.rest ++ y)) (sym h.0))) in
    (p.whole ∙ ap (λ (u : List ℕ). u ++ p.rest) h.0 ∙ ap (λ (u : List ℕ). q.front ++ u) k.0 ∙ sym q.whole, (h.1, k.1))

-- the least parts make the least row
pub row_least : (F G : List ℕ → Type 0) (s t : List ℕ) → IsLeast F s → IsLeast G t → IsLeast (λ b. Concat b F G) (s ++ t)
row_least F G s t p q = record {
  spelled = record { front = s; rest = t; whole = refl; first = p.spelled; second = q.spelled };
  least = λ u r. elim (p.least r.front r.first) [
    | inl e ↦ elim (q.least r.rest r.second) [
      | inl d ↦ inl (r.whole ∙ ap (λ (a : List ℕ). a ++ r.rest) e ∙ ap (λ (a : List ℕ). s ++ a) d)
      | inr lt ↦ inr (omega (arith, length-append s t, length-append r.front r.rest, ap length r.whole, ap length e))
    ]
    | inr lt ↦ elim (q.least r.rest r.second) [
      | inl d ↦ inr (omega (arith, length-append s t, length-append r.front r.rest, ap length r.whole, ap length d))
      | inr lt2 ↦ inr (omega (arith, length-append s t, length-append r.front r.rest, ap length r.whole))
    ]
  ];
}

-- rows are equal if their parts have to be
pub row_alone : (F G : List ℕ → Type 0) (s t : List ℕ) → ((a b : List ℕ) → F a → F b → a ≡ b) → ((a b : List ℕ) → G a → G b → a ≡ b) → Concat s F G → Concat t F G → s ≡ t
row_alone F G s t f g p q =
    p.whole ∙ ap (λ (u : List ℕ). u ++ p.rest) (f p.front q.front p.first q.first) ∙ ap (λ (u : List ℕ). q.front ++ u) (g p.rest q.rest p.second q.second) ∙ sym q.whole

-- a row of one kind of parts is one of another if its parts are
pub row_map : (F G F2 G2 : List ℕ → Type 0) (b : List ℕ) → ((s : List ℕ) → F s → F2 s) → ((s : List ℕ) → G s → G2 s) → Concat b F G → Concat b F2 G2
row_map F G F2 G2 b f g p = record { front = p.front; rest = p.rest; whole = p.whole; first = f p.front p.first; second = g p.rest p.second }
