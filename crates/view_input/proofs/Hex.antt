-- Hex in lower case, of the bytes that digits stand for.
use Rattle.std.proofs.Common.{if◌then◌else◌, ◌≡◌, ℕ, zero, suc, ◌+◌, ◌-◌, ◌*◌, ◌/◌, ◌%◌, ◌<◌, ◌==◌, ◌&&◌, Bool, true, false, List, [], ◌∷◌, length, map, slice_index, Option, Some, None, Result, Ok, Err, nat_lt, refl, ap, subst, ◌∙◌, inl, inr, arith}
use Rattle.std.proofs.Math.Dec.{leb}
use Rattle.std.proofs.lemmas.Bool.{and_parts, cases_lt, eqb-true, lt-leb, ltb-true}
use Rattle.hex.specs.Hex.{decode_of, decode_pairs, digit_or_error, encode_lower, encode_with, hex_digit_value, lower_digits, pair_value, ◌>>=◌}
use Rattle.hex.specs.declared.error.FromHexError.{FromHexError}
use Rattle.hex.specs.declared.error.FromHexError.TheVariants.{OddLength}
use Rattle.view_input.specs.Input.{lower_digit}

-- ---- digits

-- the test of one digit, which computes: its value is below 16, and the digit of that value is it in lower case
abbrev fits : ℕ → Option ℕ → Bool
fits c None = true
fits c (Some v) = nat_lt v 16 && (slice_index lower_digits v == lower_digit c)

-- the test of all below n
abbrev all_fit : ℕ → Bool
all_fit zero = true
all_fit (suc n) = fits n (hex_digit_value n) && all_fit n

all_fit-at : (n c : ℕ) → all_fit n ≡ true → c < n → fits c (hex_digit_value c) ≡ true
all_fit-at zero c h lt = absurd (omega arith)
all_fit-at (suc n) c h lt =
    let parts = and_parts (fits n (hex_digit_value n)) (all_fit n) h in
    elim (cases_lt c n) [
      | inl below ↦ all_fit-at n c parts.1 below
      | inr top ↦
          let e : c ≡ n = omega arith in
          rw e parts.0
    ]

-- no digit is above f
no_digit_above : (c : ℕ) → 102 < c → hex_digit_value c ≡ None
no_digit_above c above =
    rw (lt-leb c 70 (omega arith), lt-leb c 102 above, lt-leb c 57 (omega arith)) (absurd_ands (leb 65 c) (leb 97 c) (leb 48 c))
  where
    absurd_ands : (a b d : Bool)
        → (if a && false then Some (c - 55) else if b && false then Some (c - 87) else if d && false then Some (c - 48) else None)
        ≡ None
    absurd_ands true true true = refl
    absurd_ands true true false = refl
    absurd_ands true false true = refl
    absurd_ands true false false = refl
    absurd_ands false true true = refl
    absurd_ands false true false = refl
    absurd_ands false false true = refl
    absurd_ands false false false = refl

-- what the test says of a digit with a value
digit_again : (c v : ℕ) → hex_digit_value c ≡ Some v → (v < 16) × (slice_index lower_digits v ≡ lower_digit c)
digit_again c v is = elim (cases_lt c 103) [
  | inl below ↦
      let passed : fits c (Some v) ≡ true = subst (λ (o : Option ℕ). fits c o ≡ true) is (all_fit-at 103 c refl below) in
      let parts = and_parts (nat_lt v 16) (slice_index lower_digits v == lower_digit c) passed in
      (ltb-true v 16 parts.0, eqb-true (slice_index lower_digits v) (lower_digit c) parts.1)
  | inr above ↦ let none = no_digit_above c (omega arith) in absurd cc
]

-- ---- what digits stand for

-- two digits of a byte are its hex
pair_again : (high low i b : ℕ) → pair_value high low i ≡ Ok b
    → (slice_index lower_digits (b / 16) ≡ lower_digit high) × (slice_index lower_digits (b % 16) ≡ lower_digit low)
pair_again high low i b is = go (hex_digit_value high) (hex_digit_value low) refl refl is
  where
    go : (h l : Option ℕ) → hex_digit_value high ≡ h → hex_digit_value low ≡ l
        → (digit_or_error high i h >>= (λ x. digit_or_error low (i + 1) l >>= (λ y. Ok (x * 16 + y)))) ≡ Ok b
        → (slice_index lower_digits (b / 16) ≡ lower_digit high) × (slice_index lower_digits (b % 16) ≡ lower_digit low)
    go None l eh el e = absurd cc
    go (Some x) None eh el e = absurd cc
    go (Some x) (Some y) eh el e =
        let first = digit_again high x eh in
        let second = digit_again low y el in
        let byte : x * 16 + y ≡ b = cc in
        let quotient : b / 16 ≡ x = omega (arith, byte, second.0) in
        let remainder : b % 16 ≡ y = omega (arith, byte, second.0) in
        (ap (slice_index lower_digits) quotient ∙ first.1, ap (slice_index lower_digits) remainder ∙ second.1)

-- the hex of the bytes that pairs of digits stand for is the digits in lower case
pairs_again : (i : ℕ) (digits bytes : List ℕ) → decode_pairs i digits ≡ Ok bytes → encode_lower bytes ≡ map lower_digit digits
unfolding decode_pairs encode_with
pairs_again i [] bytes e = let none : bytes ≡ [] = cc in rw none refl
pairs_again i (d ∷ []) bytes e = absurd cc
pairs_again i (high ∷ low ∷ rest) bytes e = go (pairs_again (i + 2) rest) (pair_value high low i) (decode_pairs (i + 2) rest) refl refl e
  where
    go : ((bs : List ℕ) → decode_pairs (i + 2) rest ≡ Ok bs → encode_lower bs ≡ map lower_digit rest)
        → (first : Result ℕ FromHexError) (others : Result (List ℕ) FromHexError)
        → pair_value high low i ≡ first → decode_pairs (i + 2) rest ≡ others
        → (first >>= (λ b. others >>= (λ bs. Ok (b ∷ bs)))) ≡ Ok bytes
        → encode_lower bytes ≡ lower_digit high ∷ lower_digit low ∷ map lower_digit rest
    go again (Err x) others ef eo e = absurd cc
    go again (Ok b) (Err x) ef eo e = absurd cc
    go again (Ok b) (Ok bs) ef eo e =
        let whole : bytes ≡ b ∷ bs = cc in
        let digits = pair_again high low i b ef in
        let tail = again bs eo in
        ap encode_lower whole
        ∙ ap (λ (u : ℕ). u ∷ slice_index lower_digits (b % 16) ∷ encode_lower bs) digits.0
        ∙ ap (λ (u : ℕ). lower_digit high ∷ u ∷ encode_lower bs) digits.1
        ∙ ap (λ (u : List ℕ). lower_digit high ∷ lower_digit low ∷ u) tail

pub hex_again : (digits bytes : List ℕ) → decode_of digits ≡ Ok bytes → encode_lower bytes ≡ map lower_digit digits
hex_again digits bytes e = go (length digits % 2 == 1) e
  where
    go : (odd : Bool) → (if odd then Err OddLength else decode_pairs 0 digits) ≡ Ok bytes → encode_lower bytes ≡ map lower_digit digits
    go true e = absurd cc
    go false e = pairs_again 0 digits bytes e
