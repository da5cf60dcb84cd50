-- What the bytes of a number below a limit say, read from the front.
use Rattle.std.proofs.Common.{take, drop, take-append-drop, refl, inl, inr, suc, ◌⊎◌, ◌≡◌, ℕ, ◌+◌, ◌*◌, ◌/◌, ◌%◌, ◌^◌, ◌<◌, ◌≤◌, List, [], ◌∷◌, ◌++◌, length, get_or, sym, ap, subst, ◌∙◌, add-one, arith, pow-suc}
use Rattle.std.proofs.lemmas.Bool.{lt-ltb}
use Rattle.std.proofs.Math.Nat.{pow-le-pow_right}
use Rattle.tls_codec_wire.proofs.BigEndian.{value-snoc}
use Rattle.tls_codec_wire.proofs.Bytes.{are_bytes, AreBytes-left}
use Rattle.tls_codec_wire.specs.Digits.{AreBytes, value}
use Rattle.tls_codec_wire.specs.Counts.{Counts, NoneFell}
use Rattle.tls_codec_wire.specs.Numbers.{NumberNotRead}
use Rattle.tls_codec_wire.specs.Transfer.{ReadRefused}
use Rattle.tls_codec_wire.specs.declared.error.Error.{Error}
use Rattle.tls_codec_wire.specs.declared.error.Error.TheVariants.{DecodingError, EndOfStream, InvalidVectorLength, OutOfMemory}
use Rattle.tls_codec_wire.proofs.Later.{fault_later, rose_later}
use Rattle.tls_codec_wire.specs.Varint.{LaidOut, SpelledBelow, least_width}
use Rattle.tls_codec_wire.specs.VarintCalls.{IsWideOrGreat, RefusesBelow, SaysWidth}

-- ---- digits

-- a digit more
pub number_more : (top n i d : ℕ) (ys zs : List ℕ) → n ≡ top * 256 ^ i + value ys → zs ≡ ys ++ d ∷ [] → n * 256 + d ≡ top * 256 ^ (i + 1) + value zs
number_more top n i d ys zs e z = rw add-one (omega (arith, e, ap value z ∙ value-snoc ys d, ap (λ (u : ℕ). top * u) (pow-suc 256 i)))

pub below_more : (n i d : ℕ) → n < 64 * 256 ^ i → d < 256 → n * 256 + d < 64 * 256 ^ (i + 1)
below_more n i d lt small = rw add-one (omega (arith, lt, small, pow-suc 256 i))

-- more digits hold no fewer numbers
pub pow_most : (i k : ℕ) → i ≤ k → 256 ^ i ≤ 256 ^ k
pow_most i k le = pow-le-pow_right (omega arith) {j = k} le

-- ---- layouts

-- a first byte and as many others as it says are laid out as what they stand for
laid_out : (first n : ℕ) (digits : List ℕ) → AreBytes (first ∷ digits) → length digits + 1 ≡ 2 ^ (first / 64) → n ≡ first % 64 * 256 ^ length digits + value digits → LaidOut (first ∷ digits) n
laid_out first n digits bytes width number = (
  first / 64,
  first % 64,
  record {
    top = omega (arith, bytes.0);
    low = omega arith;
    first = omega arith;
    width = omega (arith, width);
    bytes = bytes.1;
    number = sym number;
  },
)

-- a number below 64 is spelled by itself
pub one_byte_spells : (limit n : ℕ) → n < 64 → 64 ≤ limit → SpelledBelow limit (n ∷ []) n
one_byte_spells limit n h le = record {
  laid_out = (0, n, record { top = omega arith; low = h; first = omega arith; width = refl; bytes = tt; number = omega arith });
  least = rw (lt-ltb n 64 h) refl;
  below = omega arith;
}

-- what a first byte and as many others as it says come to
pub record HasDigits (first more least number : ℕ) (digits : List ℕ) : Type 0 where
  pub bytes : AreBytes (first ∷ digits)
  pub says : SaysWidth first more least
  pub count : length digits ≡ more
  pub value : number ≡ first % 64 * 256 ^ length digits + value digits
  pub fits : number < 64 * 256 ^ length digits

module _ {first more least number : ℕ} {digits : List ℕ} (d : HasDigits first more least number digits) where
  lays_out : LaidOut (first ∷ digits) number
  lays_out = laid_out first number digits d.bytes (omega (arith, d.says.width, d.count)) d.value

  -- they spell it, if they are as many as it needs and it is below the limit
  pub spells_below : (limit : ℕ) {n : ℕ} → n ≡ number → least ≤ number → number < limit → SpelledBelow limit (first ∷ digits) n
  spells_below limit same needed below =
      let fits : number < 64 * 256 ^ more = subst (λ (k : ℕ). number < 64 * 256 ^ k) d.count d.fits in
      subst (SpelledBelow limit (first ∷ digits)) (sym same) (record { laid_out = lays_out; least = omega (arith, d.count, d.says.needed number fits needed); below = below })

  -- else they are too wide, or it is too great
  pub wide_or_great : (limit : ℕ) (rest : List ℕ) → (number < least) ⊎ (limit ≤ number) → IsWideOrGreat limit ((first ∷ digits) ++ rest)
  wide_or_great limit rest cause = record { front = first ∷ digits; rest = rest; number = number; whole = refl; laid_out = lays_out; cause = wider cause }
    where
      wider : (number < least) ⊎ (limit ≤ number) → (least_width number < suc (length digits)) ⊎ (limit ≤ number)
      wider (inl wide) = inl (omega (arith, d.count, d.says.wide number wide))
      wider (inr great) = inr great

-- ---- from a slice

-- the first bytes of a slice, and the rest
pub digits_split : (x : List ℕ) {first more least number : ℕ} {behind digits rest : List ℕ} → ((i : ℕ) → get_or x i 0 < 256) → x ≡ first ∷ behind → digits ≡ take more behind → rest ≡ drop more behind → length digits ≡ more
    → SaysWidth first more least → number ≡ first % 64 * 256 ^ length digits + value digits → number < 64 * 256 ^ length digits → (x ≡ (first ∷ digits) ++ rest) × HasDigits first more least number digits
digits_split x {first} {more} {least} {number} {behind} {digits} {rest} small e front back count says number_is fits =
    let parts : behind ≡ digits ++ rest = sym (take-append-drop more behind) ∙ ap (λ (u : List ℕ). u ++ drop more behind) (sym front) ∙ ap (λ (u : List ℕ). digits ++ u) (sym back) in
    let whole : x ≡ (first ∷ digits) ++ rest = e ∙ ap (λ (u : List ℕ). first ∷ u) parts in
    (whole, record { bytes = AreBytes-left (first ∷ digits) rest (subst AreBytes whole (are_bytes x small)); says = says; count = count; value = number_is; fits = fits })

-- the refusal says so
pub refused_so : (limit : ℕ) {x : List ℕ} (e : Error) → e ≡ InvalidVectorLength → IsWideOrGreat limit x → RefusesBelow limit x e
refused_so limit {x} e same p = subst (RefusesBelow limit x) (sym same) p

-- ---- from a source

-- a buffer for one byte holds one
pub one_byte : (buffer : List ℕ) → length buffer ≡ 1 → buffer ≡ get_or buffer 0 0 ∷ []
one_byte [] one = absurd (omega (arith, one))
one_byte (x ∷ []) one = refl
one_byte (x ∷ y ∷ more) one = absurd (omega (arith, one))

-- the bytes of both buffers
pub digits_read : (buffer : List ℕ) {more least number : ℕ} {digits : List ℕ} → length buffer ≡ 1 → AreBytes buffer → AreBytes digits → length digits ≡ more
    → SaysWidth (get_or buffer 0 0) more least → number ≡ get_or buffer 0 0 % 64 * 256 ^ length digits + value digits → number < 64 * 256 ^ length digits → HasDigits (get_or buffer 0 0) more least number digits
digits_read buffer {digits = digits} one first others count says number_is fits =
    let byte = subst AreBytes (one_byte buffer one) first in
    record { bytes = (byte.0, others); says = says; count = count; value = number_is; fits = fits }

-- they are all there, and spell nothing
pub not_admitted : (limit : ℕ) {first more least number : ℕ} {digits : List ℕ} → HasDigits first more least number digits → (e : Error) (old new : Counts) → e ≡ InvalidVectorLength → (number < least) ⊎ (limit ≤ number)
    → (rest : List ℕ) → NumberNotRead (RefusesBelow limit) ((first ∷ digits) ++ rest) old new e
not_admitted limit {first} {more} {least} {number} {digits} d e old new same cause rest =
    subst (NumberNotRead (RefusesBelow limit) ((first ∷ digits) ++ rest) old new) (sym same) (wide_or_great d limit rest cause)

-- no byte was read
pub no_first_byte : (limit : ℕ) (old new : Counts) (e : Error) (x : List ℕ) → ReadRefused 1 x old new e → NumberNotRead (RefusesBelow limit) x old new e
no_first_byte limit old new (DecodingError text) x p = inl p
no_first_byte limit old new OutOfMemory x p = p
no_first_byte limit old new EndOfStream [] p = tt
no_first_byte limit old new EndOfStream (b ∷ bs) p = absurd (omega (arith, p))
no_first_byte limit old new _ x p = absurd p

-- fewer were read than the first one asks for
pub too_few_digits : (limit : ℕ) {first more least : ℕ} → SaysWidth first more least → {n : ℕ} → n ≡ more → (start old new : Counts) (e : Error) → NoneFell start old → (x : List ℕ) → ReadRefused n x old new e → NumberNotRead (RefusesBelow limit) (first ∷ x) start new e
too_few_digits limit says same start old new (DecodingError text) fell x p = inl (p.0, fault_later start old new fell p.1)
too_few_digits limit says same start old new OutOfMemory fell x p = rose_later start old new fell p
too_few_digits limit says same start old new EndOfStream fell x p = omega (arith, p, same, says.width)
too_few_digits limit says same start old new _ fell x p = absurd p
