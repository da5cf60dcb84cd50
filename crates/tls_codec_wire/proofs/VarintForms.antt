-- The spelling of a number, as std's digits make it.
use Rattle.std.proofs.Common.{◌≡◌, ℕ, zero, suc, ◌+◌, ◌-◌, ◌*◌, ◌/◌, ◌%◌, ◌^◌, ◌<◌, ◌≤◌, List, length, drop, refl, sym, ap, subst, ◌∙◌, arith}
use Rattle.std.proofs.lemmas.Nat.{div-mul-add, mod-mul-add, div-add-mod', mod_below, pow_pos}
use Rattle.std.proofs.Math.Nat.{div-lt_iff_lt-mul, mod-eq_of_lt, pow-le-pow_right}
use Rattle.std.proofs.Math.Pow.{pow_mono}
use Rattle.std.specs.Int.{byte_at, bytes_high_first}
use Rattle.tls_codec_wire.proofs.BigEndian.{length-high_first, AreBytes-high_first, value-high_first}
use Rattle.tls_codec_wire.specs.Digits.{value}
use Rattle.tls_codec_wire.specs.Varint.{LaidOut, SpelledBelow}
use Rattle.tls_codec_wire.specs.VarintCalls.{HasLeastTopBits}

-- the last j digits
pub drop-high_first : (k j n : ℕ) → drop k (bytes_high_first (k + j) n) ≡ bytes_high_first j n
drop-high_first zero j n = ap (λ (u : ℕ). bytes_high_first u n) (omega arith)
drop-high_first (suc k) j n =
    let one : suc k + j ≡ suc (k + j) = omega arith in
    rw one (drop-high_first k j n)

byte_at-div : (i n : ℕ) → byte_at i n ≡ n / 256 ^ i % 256
byte_at-div zero n = omega arith
byte_at-div (suc i) n = refl

-- the first digit is c, and the others stand for r
first_digit : (u c r : ℕ) → c < 256 → r < 256 ^ u → byte_at u (c * 256 ^ u + r) ≡ c
first_digit u c r small below = byte_at-div u _ ∙ ap (λ (q : ℕ). q % 256) (div-mul-add c (256 ^ u) r below) ∙ mod-eq_of_lt small

other_digits : (u c r : ℕ) → r < 256 ^ u → value (bytes_high_first u (c * 256 ^ u + r)) ≡ r
other_digits u c r below = value-high_first u _ ∙ mod-mul-add c (256 ^ u) r below

-- a number that fits and the mark of its top bits are laid out as their digits
marked_digits : (t u n : ℕ) → t < 4 → suc u ≡ 2 ^ t → n < 64 * 256 ^ u → LaidOut (bytes_high_first (suc u) (n + 64 * t * 256 ^ u)) n
marked_digits t u n small width fits =
    let unit : 0 < 256 ^ u = pow-le-pow_right {n = 256} (omega arith) {i = 0} {j = u} (omega arith) in
    let low : n / 256 ^ u < 64 = (div-lt_iff_lt-mul unit).1 fits in
    let below : n % 256 ^ u < 256 ^ u = mod_below n (256 ^ u) unit in
    let parts : n / 256 ^ u * 256 ^ u + n % 256 ^ u ≡ n = div-add-mod' n (256 ^ u) in
    let whole : n + 64 * t * 256 ^ u ≡ (64 * t + n / 256 ^ u) * 256 ^ u + n % 256 ^ u = regroup n (64 * t) (n / 256 ^ u) (n % 256 ^ u) (256 ^ u) parts in (
      t,
      n / 256 ^ u,
      record {
        top = small;
        low = low;
        first = ap (byte_at u) whole ∙ first_digit u (64 * t + n / 256 ^ u) (n % 256 ^ u) (omega arith) below;
        width = ap suc (length-high_first u _) ∙ width;
        bytes = AreBytes-high_first u _;
        number = ap (λ (k : ℕ). n / 256 ^ u * 256 ^ k + value (bytes_high_first u (n + 64 * t * 256 ^ u))) (length-high_first u _)
            ∙ ap (λ (x : ℕ). n / 256 ^ u * 256 ^ u + value (bytes_high_first u x)) whole
            ∙ ap (λ (v : ℕ). n / 256 ^ u * 256 ^ u + v) (other_digits u (64 * t + n / 256 ^ u) (n % 256 ^ u) below)
            ∙ parts;
      },
    )
  where
    regroup : (n c q r w : ℕ) → q * w + r ≡ n → n + c * w ≡ (c + q) * w + r
    regroup n c q r w e = grind arith

-- so the last digits of the two, as many as the top bits say, are the spelling
pub laid_out : (limit n mark width : ℕ) → HasLeastTopBits n mark width → n < limit → SpelledBelow limit (drop (8 - width) (bytes_high_first 8 (n + mark))) n
laid_out limit n mark width p below =
    let u : ℕ = 2 ^ p.top - 1 in
    let says : suc u ≡ 2 ^ p.top = omega (arith, pow_pos p.top) in
    let most : 2 ^ p.top ≤ 8 = pow_mono {i = p.top} {j = 3} (omega (arith, p.small)) in
    let eight : 8 ≡ 8 - width + suc u = omega (arith, p.says, says, most) in
    let last : drop (8 - width) (bytes_high_first 8 (n + mark)) ≡ bytes_high_first (suc u) (n + mark) =
    ap (λ (k : ℕ). drop (8 - width) (bytes_high_first k (n + mark))) eight ∙ drop-high_first (8 - width) (suc u) (n + mark) in
    record {
      laid_out = subst (λ (b : List ℕ). LaidOut b n) (sym last)
          (subst (λ (m : ℕ). LaidOut (bytes_high_first (suc u) (n + m)) n) (sym p.marks) (marked_digits p.top u n p.small says p.fits));
      least = ap length last ∙ length-high_first (suc u) (n + mark) ∙ says ∙ sym p.says ∙ p.least;
      below = below;
    }
