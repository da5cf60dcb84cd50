-- What the first byte of a text says of the whole.
use Rattle.std.proofs.Common.{◌≡◌, ℕ, List, [], ◌∷◌, true, false, refl, length, arith}
use Rattle.tlsgen_model.specs.Layout.{closes, is_blank, is_closing, is_layout, significant}

pub passes : (b : ℕ) (bs : List ℕ) → is_layout b bs ≡ true → significant (b ∷ bs) ≡ significant bs
unfolding significant
passes b bs is = rw is refl

pub counts : (b : ℕ) (bs : List ℕ) → is_layout b bs ≡ false → significant (b ∷ bs) ≡ b ∷ significant bs
unfolding significant
counts b bs is = rw is refl

pub closes_later : (b : ℕ) (bs : List ℕ) → is_blank b ≡ true → closes (b ∷ bs) ≡ closes bs
unfolding closes
closes_later b bs is = rw is refl

pub closes_now : (b : ℕ) (bs : List ℕ) → is_blank b ≡ false → closes (b ∷ bs) ≡ is_closing b
unfolding closes
closes_now b bs is = rw is refl

pub nothing_counts : (bs : List ℕ) → length bs ≡ 0 → significant bs ≡ []
unfolding significant
nothing_counts [] none = refl
nothing_counts (b ∷ bs) none = absurd (omega (arith, none))

pub nothing_closes : (bs : List ℕ) → length bs ≡ 0 → closes bs ≡ false
unfolding closes
nothing_closes [] none = refl
nothing_closes (b ∷ bs) none = absurd (omega (arith, none))
