-- The laws of numbers below a limit, as integers and as lengths (RFC 9000, section 16; RFC 9420, section 2.1.2).
use Rattle.std.proofs.Common.{◌≡◌, ◌≢◌, ℕ, suc, ◌+◌, ◌-◌, ◌*◌, ◌^◌, ◌<◌, ◌≤◌, ◌/◌, ◌%◌, List, [], ◌∷◌, ◌++◌, length, refl, sym, ap, subst, ◌∙◌, inl, inr, arith, length-append}
use Rattle.std.proofs.lemmas.Bool.{cases_lt, lt-ltb, le-ltb}
use Rattle.std.proofs.lemmas.Nat.{div-mul-add, div-add-mod', mod_below, pow_pos}
use Rattle.std.proofs.Math.Nat.{pow-le-pow_right, mul-le-mul_left, mul-le-mul_right, div-lt_iff_lt-mul}
use Rattle.std.proofs.Math.Pow.{pow_mono, pow-lt}
use Rattle.tls_codec_wire.specs.Digits.{value}
use Rattle.tls_codec_wire.specs.Numbers.{NoNumberBegins}
use Rattle.tls_codec_wire.specs.Varint.{LaidOut, SpelledBelow, VarintBy, least_width, width_below}
use Rattle.tls_codec_wire.specs.VarintCalls.{EndsEarly, RefusesBelow}
use Rattle.tls_codec_wire.specs.declared.error.Error.{Error}
use Rattle.tls_codec_wire.specs.declared.error.Error.TheVariants.{EndOfStream, InvalidVectorLength, OutOfMemory, TrailingData}
use Rattle.tls_codec_grammar.specs.Tree.{Tree, Number}
use Rattle.tls_codec_grammar.specs.Grammar.{Reading, Writing, varint}
use Rattle.tls_codec_grammar.specs.Announced.{capped, varint_length}
use Rattle.tls_codec_grammar.specs.Lawful.{IsLawful, IsLengthField}
use Rattle.tls_codec_grammar.specs.laws.RowLaws.{split_at}
use Rattle.tls_codec_grammar.specs.laws.NumberLaws.{value_below, value_one, pow256_pos, to_digits, to_digits_digits}

-- the least number that the top bits t, so 2 ^ t bytes, are too few for
abbrev pub layout_limit : ℕ → ℕ
layout_limit t = 64 * 256 ^ (2 ^ t - 1)

-- more bytes hold no fewer numbers
limit_mono : (s t : ℕ) → s ≤ t → layout_limit s ≤ layout_limit t
limit_mono s t h = mul-le-mul_left 64 (pow-le-pow_right (omega arith) (omega (arith, pow_mono h)))

-- ---- layouts

-- layouts that begin one byte list are equal, and so are their numbers
layout_one : (a b x y : List ℕ) (m n : ℕ) → LaidOut a m → LaidOut b n → a ++ x ≡ b ++ y → (a ≡ b) × (m ≡ n)
layout_one (a ∷ as') (b ∷ bs) x y m n p q e =
    let head : a ≡ b = cc in
    let tails : as' ++ x ≡ bs ++ y = cc in
    let top : p.0 ≡ q.0 = omega (arith, head, p.2.first, q.2.first, p.2.low, q.2.low) in
    let low : p.1 ≡ q.1 = omega (arith, head, top, p.2.first, q.2.first) in
    let same : length as' ≡ length bs = omega (arith, p.2.width, q.2.width, ap (λ (u : ℕ). 2 ^ u) top) in
    let h = split_at as' bs x y same tails in
    (cc, sym p.2.number ∙ ap (λ (u : ℕ). u * 256 ^ length as' + value as') low ∙ ap (λ (u : List ℕ). q.1 * 256 ^ length u + value u) h.0 ∙ q.2.number)
layout_one _ _ x y m n p q e = absurd search

-- a number that is laid out is below the limit of its top bits
pub layout_below : (t r b : ℕ) (bs : List ℕ) (n : ℕ) → VarintBy t r b bs n → n < layout_limit t
layout_below t r b bs n p =
    let w : 2 ^ t - 1 ≡ length bs = omega (arith, p.width) in
    let k = value_below bs p.bytes in
    let m : r * 256 ^ length bs ≤ 63 * 256 ^ length bs = mul-le-mul_right (256 ^ length bs) (omega (arith, p.low)) in
    rw w (omega (arith, k, m, p.number))

-- one number has one layout of each width
layout_same : (t r b : ℕ) (bs : List ℕ) (s c : ℕ) (cs : List ℕ) (n : ℕ) → VarintBy t r b bs n → VarintBy t s c cs n → b ∷ bs ≡ c ∷ cs
layout_same t r b bs s c cs n p q =
    let same : length bs ≡ length cs = omega (arith, p.width, q.width) in
    let below : value bs < 256 ^ length bs = value_below bs p.bytes in
    let below2 : value cs < 256 ^ length bs = rw same (value_below cs q.bytes) in
    let e : r * 256 ^ length bs + value bs ≡ s * 256 ^ length bs + value cs = p.number ∙ sym q.number ∙ ap (λ (u : ℕ). s * 256 ^ u + value cs) (sym same) in
    let low : r ≡ s = sym (div-mul-add r (256 ^ length bs) (value bs) below) ∙ ap (λ (u : ℕ). u / 256 ^ length bs) e ∙ div-mul-add s (256 ^ length bs) (value cs) below2 in
    let rest : value bs ≡ value cs = omega (arith, e, ap (λ (u : ℕ). u * 256 ^ length bs) low) in
    let tails = value_one bs cs p.bytes q.bytes same rest in
    let head : b ≡ c = p.first ∙ ap (λ (u : ℕ). 64 * t + u) low ∙ sym q.first in
    cc

-- equal powers of 2 have equal exponents
same_top : (s t : ℕ) → 2 ^ s ≡ 2 ^ t → s ≡ t
same_top s t e = elim (cases_lt s t) [
  | inl lt ↦ let more : 2 ^ s < 2 ^ t = pow-lt lt in absurd (omega arith)
  | inr le ↦ elim (cases_lt t s) [
    | inl lt ↦ let more : 2 ^ t < 2 ^ s = pow-lt lt in absurd (omega arith)
    | inr ge ↦ omega arith
  ]
]

layout_alone : (a b : List ℕ) (n : ℕ) → LaidOut a n → LaidOut b n → length a ≡ length b → a ≡ b
layout_alone (a ∷ as') (b ∷ bs) n p q e =
    let top : q.0 ≡ p.0 = same_top q.0 p.0 (sym q.2.width ∙ sym e ∙ p.2.width) in
    layout_same p.0 p.1 a as' q.1 b bs n p.2 (subst (λ (u : ℕ). VarintBy u q.1 b bs n) top q.2)
layout_alone _ _ n p q e = absurd search

-- a number below the limit of these top bits has a layout with them
layout_by : (t n : ℕ) → t < 4 → n < layout_limit t → (b : List ℕ) × LaidOut b n × (length b ≡ 2 ^ t)
layout_by t n h lt =
    let k : ℕ = 2 ^ t - 1 in
    let p : 0 < 256 ^ k = pow256_pos k in
    let d = to_digits_digits k (n % 256 ^ k) (mod_below n (256 ^ k) p) in
    let width : suc (length (to_digits k (n % 256 ^ k))) ≡ 2 ^ t = omega (arith, d.width, pow_pos t) in (
      (64 * t + n / 256 ^ k) ∷ to_digits k (n % 256 ^ k),
      (
        t,
        n / 256 ^ k,
        record {
          top = h;
          low = (div-lt_iff_lt-mul p).1 lt;
          first = refl;
          width = width;
          bytes = d.bytes;
          number = rw d.width (rw d.number (div-add-mod' n (256 ^ k)));
        },
      ),
      width,
    )

-- ---- the least width

-- n is below the limit of these top bits, and width is how many bytes they say
record IsTop (n t width : ℕ) : Type 0 where
  small : t < 4
  fits : n < layout_limit t
  says : width ≡ 2 ^ t

-- a number below 2 ^ 62 has top bits that say its least width
least_top : (n : ℕ) → n < 4611686018427387904 → (t : ℕ) × IsTop n t (least_width n)
least_top n h = elim (cases_lt n 64) [
  | inl a ↦ rw (lt-ltb n 64 a) (0, record { small = omega arith; fits = a; says = refl })
  | inr a ↦ rw (le-ltb n 64 a) (elim (cases_lt n 16384) [
    | inl b ↦ rw (lt-ltb n 16384 b) (1, record { small = omega arith; fits = b; says = refl })
    | inr b ↦ rw (le-ltb n 16384 b) (elim (cases_lt n 1073741824) [
      | inl c ↦ rw (lt-ltb n 1073741824 c) (2, record { small = omega arith; fits = c; says = refl })
      | inr c ↦ rw (le-ltb n 1073741824 c) (3, record { small = omega arith; fits = h; says = refl })
    ])
  ])
]

-- ---- numbers below a limit

module _ (limit : ℕ) where
  -- a number has at most one spelling, of `width_below` bytes, and none begins another
  pub below_field : IsLengthField (SpelledBelow limit) (width_below limit)
  below_field = record {
    one = λ a b x y m n p q e. layout_one a b x y m n p.laid_out q.laid_out e;
    alone = λ a b n p q. layout_alone a b n p.laid_out q.laid_out (p.least ∙ sym q.least);
    measures = λ a n p. rw (lt-ltb n limit p.below) (sym p.least);
  }

  -- each number below a limit that a layout can hold has one
  pub below_each : limit ≤ 4611686018427387904 → (n : ℕ) → n < limit → (b : List ℕ) × SpelledBelow limit b n
  below_each small n lt =
      let top = least_top n (omega (arith, small, lt)) in
      let d = layout_by top.0 n top.1.small top.1.fits in
      (d.0, record { laid_out = d.1; least = d.2 ∙ sym top.1.says; below = lt })

  -- bytes that end early begin with no layout
  early_none : (x front rest : List ℕ) (n : ℕ) → EndsEarly x → x ≡ front ++ rest → LaidOut front n → ⊥
  early_none x [] rest n early e p = p
  early_none [] (c ∷ cs) rest n early e p = absurd cc
  early_none (b ∷ bs) (c ∷ cs) rest n early e p =
      let head : b ≡ c = cc in
      let tails : bs ≡ cs ++ rest = cc in
      let top : b / 64 ≡ p.0 = omega (arith, head, p.2.first, p.2.low) in
      absurd (omega (arith, early, ap (λ (u : ℕ). 2 ^ u) top, p.2.width, ap length tails, length-append cs rest))

  -- what is refused begins with no spelling
  pub below_none : (x : List ℕ) (e : Error) → RefusesBelow limit x e → NoNumberBegins (SpelledBelow limit) x
  below_none x EndOfStream p n rest b = early_none x b.front rest n p b.whole b.spelled.laid_out
  below_none x InvalidVectorLength p n rest b =
      let h = layout_one p.front b.front p.rest rest p.number n p.laid_out b.spelled.laid_out (sym p.whole ∙ b.whole) in
      elim p.cause [
        | inl wide ↦ absurd (omega (arith, wide, b.spelled.least, ap length h.0, ap least_width h.1))
        | inr great ↦ absurd (omega (arith, great, b.spelled.below, h.1))
      ]
  below_none x _ p n rest b = absurd p

  pub below_named : (x : List ℕ) (e : Error) → RefusesBelow limit x e → (e ≢ OutOfMemory) × (e ≢ TrailingData)
  below_named x EndOfStream p = (λ h. cc, λ h. cc)
  below_named x InvalidVectorLength p = (λ h. cc, λ h. cc)
  below_named x _ p = absurd p

-- ---- as values

-- a layout has 8 bytes at most
pub layout_narrow : (b : List ℕ) (n : ℕ) → LaidOut b n → length b ≤ 8
layout_narrow [] n p = absurd p
layout_narrow (b ∷ bs) n p =
    let most : 2 ^ p.0 ≤ 2 ^ 3 = pow_mono {i = p.0} {j = 3} (omega (arith, p.2.top)) in
    omega (arith, p.2.width, most)

stays_below_cap : {n m : ℕ} → n ≡ m → m ≤ 8 → n ≡ capped m
stays_below_cap {n} {m} e h = omega arith

-- integers meet the laws
pub varint_lawful : IsLawful varint varint_length
varint_lawful = record { one = value_one_front; alone = value_alone; written = value_written; announces = value_announces }
  where
    value_one_front : (s t x y : List ℕ) (v w : Tree) → varint Reading s v → varint Reading t w → s ++ x ≡ t ++ y → (s ≡ t) × (v ≡ w)
    value_one_front s t x y (Number m) (Number n) p q e = let h = (below_field (2 ^ 62)).one s t x y m n p q e in (h.0, ap Number h.1)
    value_one_front s t x y _ _ p q e = absurd search

    value_alone : (s t : List ℕ) (v : Tree) → varint Writing s v → varint Writing t v → s ≡ t
    value_alone s t (Number n) p q = (below_field (2 ^ 62)).alone s t n p q
    value_alone s t _ p q = absurd p

    value_written : (s : List ℕ) (v : Tree) → varint Reading s v → varint Writing s v
    value_written s (Number n) p = p
    value_written s _ p = absurd p

    value_announces : (s : List ℕ) (v : Tree) → varint Writing s v → varint_length v ≡ capped (length s)
    value_announces s (Number n) p = let width = (below_field (2 ^ 62)).measures s n p in stays_below_cap width (layout_narrow s n p.laid_out)
    value_announces s _ p = absurd p
