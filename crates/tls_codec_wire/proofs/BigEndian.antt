-- The digits that std makes of a number, and the number that it makes of digits.
use Rattle.std.proofs.Common.{◌≡◌, ℕ, suc, zero, ◌+◌, ◌-◌, ◌*◌, ◌%◌, ◌^◌, ◌<◌, ◌≤◌, List, [], ◌∷◌, ◌++◌, length, take, get_or, refl, sym, ap, ◌∙◌, arith, pow-suc, mul_comm, length-append}
use Rattle.std.proofs.Math.Nat.{pow-le-pow_right}
use Rattle.std.proofs.Math.Seq.{take-suc, take-length}
use Rattle.std.proofs.Math.Arith.{mod-mul}
use Rattle.std.specs.Int.{byte_at, byte_worth, bytes_high_first, sum_through}
use Rattle.tls_codec_wire.specs.Digits.{AreBytes, value}

-- ---- from a number

pub length-high_first : (k n : ℕ) → length (bytes_high_first k n) ≡ k
length-high_first zero n = refl
length-high_first (suc k) n = ap suc (length-high_first k n)

byte_at_below : (k n : ℕ) → byte_at k n < 256
byte_at_below zero n = omega arith
byte_at_below (suc k) n = omega arith

pub AreBytes-high_first : (k n : ℕ) → AreBytes (bytes_high_first k n)
AreBytes-high_first zero n = tt
AreBytes-high_first (suc k) n = (byte_at_below k n, AreBytes-high_first k n)

-- one more byte before the low k bytes
one_more_high : (k n : ℕ) → byte_at k n * 256 ^ k + n % 256 ^ k ≡ n % 256 ^ suc k
one_more_high zero n = omega arith
one_more_high (suc k) n =
    let unit = 256 ^ suc k in
    let wider : 256 ^ suc (suc k) ≡ 256 * unit = pow-suc 256 (suc k) ∙ mul_comm unit 256 in
    let some : 0 < unit = pow-le-pow_right {n = 256} (omega arith) {i = 0} {j = suc k} (omega arith) in
    rw (wider, mod-mul n {m = 256} {c = unit} (omega arith) some) (omega arith)

pub value-high_first : (k n : ℕ) → value (bytes_high_first k n) ≡ n % 256 ^ k
value-high_first zero n = omega arith
value-high_first (suc k) n = rw (length-high_first k n, value-high_first k n) (one_more_high k n)

-- ---- to a number

pub value-snoc : (b : List ℕ) (d : ℕ) → value (b ++ d ∷ []) ≡ value b * 256 + d
value-snoc [] d = omega arith
value-snoc (b ∷ bs) d =
    let n : length (bs ++ d ∷ []) ≡ suc (length bs) = omega (arith, length-append bs (d ∷ [])) in
    rw n (rw (value-snoc bs d) (omega (arith, ap (λ (u : ℕ). b * u) (pow-suc 256 (length bs)))))

worth : (i b : ℕ) → byte_worth i b ≡ b * 256 ^ i
worth zero b = omega arith
worth (suc i) b = refl

-- the sum of the first bytes' worths
sum_so_far : (k j : ℕ) (bs : List ℕ) → length bs ≡ suc k → j ≤ k
    → sum_through (λ i. byte_worth (k - i) (get_or bs i 0)) j ≡ value (take (suc j) bs) * 256 ^ (k - j)
sum_so_far k zero [] n le = absurd (omega (arith, n))
sum_so_far k zero (b ∷ bs) n le = worth (k - 0) b ∙ ap (λ (u : ℕ). u * 256 ^ (k - 0)) (omega arith)
sum_so_far k (suc j) bs n le =
    let so_far : sum_through (λ i. byte_worth (k - i) (get_or bs i 0)) j ≡ value (take (suc j) bs) * 256 ^ (k - j) =
    sum_so_far k j bs n (omega arith) in
    let here : byte_worth (k - suc j) (get_or bs (suc j) 0) ≡ get_or bs (suc j) 0 * 256 ^ (k - suc j) = worth (k - suc j) _ in
    let step : k - j ≡ suc (k - suc j) = omega arith in
    let unit : 256 ^ (k - j) ≡ 256 ^ (k - suc j) * 256 = ap (λ (u : ℕ). 256 ^ u) step ∙ pow-suc 256 (k - suc j) in
    let longer : value (take (suc (suc j)) bs) ≡ value (take (suc j) bs) * 256 + get_or bs (suc j) 0 =
    ap value (take-suc bs (suc j) 0 (omega (arith, n))) ∙ value-snoc (take (suc j) bs) (get_or bs (suc j) 0) in
    rw (so_far, here, unit, longer) (regroup (value (take (suc j) bs)) (256 ^ (k - suc j)) (get_or bs (suc j) 0))
  where
    regroup : (v u d : ℕ) → v * (u * 256) + d * u ≡ (v * 256 + d) * u
    regroup v u d = grind arith

-- the number that k + 1 digits are summed up to
pub sum_through-digits : (k : ℕ) (bs : List ℕ) → length bs ≡ suc k → sum_through (λ i. byte_worth (k - i) (get_or bs i 0)) k ≡ value bs
sum_through-digits k bs n =
    let all : take (suc k) bs ≡ bs = ap (λ (u : ℕ). take u bs) (sym n) ∙ take-length bs in
    let one : k - k ≡ 0 = omega arith in
    sum_so_far k k bs n (omega arith) ∙ ap (λ (u : List ℕ). value u * 256 ^ (k - k)) all ∙ ap (λ (u : ℕ). value bs * 256 ^ u) one ∙ omega arith
