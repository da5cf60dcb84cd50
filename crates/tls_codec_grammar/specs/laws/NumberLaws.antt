-- The laws of numbers of a fixed width, of such numbers as length fields, and of byte arrays.
use Rattle.std.proofs.Common.{◌≡◌, ℕ, zero, suc, ◌+◌, ◌*◌, ◌^◌, ◌<◌, ◌≤◌, ◌/◌, ◌%◌, List, [], ◌∷◌, ◌++◌, length, refl, sym, ap, ◌∙◌, inl, arith}
use Rattle.std.proofs.lemmas.Nat.{div-mul-add, div-add-mod', mod_below}
use Rattle.std.proofs.Math.Nat.{mul-le-mul_right, pow-suc, div-lt_iff_lt-mul}
use Rattle.tls_codec_wire.specs.Digits.{AreBytes, value, Digits}
use Rattle.tls_codec_grammar.specs.Tree.{Tree, Number, number_trees}
use Rattle.tls_codec_grammar.specs.Grammar.{Reading, Writing, number, array}
use Rattle.tls_codec_grammar.specs.Shortest.{IsLeast}
use Rattle.tls_codec_grammar.specs.Announced.{capped}
use Rattle.tls_codec_grammar.specs.Lawful.{IsLawful, IsLengthField}
use Rattle.tls_codec_grammar.specs.laws.RowLaws.{split_at}

-- ---- digits

-- k bytes stand for a number below 256 ^ k
pub value_below : (b : List ℕ) → AreBytes b → value b < 256 ^ length b
value_below [] h = omega arith
value_below (b ∷ bs) h =
    let k = value_below bs h.1 in
    let t : b * 256 ^ length bs ≤ 255 * 256 ^ length bs = mul-le-mul_right (256 ^ length bs) (omega arith) in
    omega (arith, pow-suc 256 (length bs), t, k)

-- as many bytes that stand for one number are equal
pub value_one : (a b : List ℕ) → AreBytes a → AreBytes b → length a ≡ length b → value a ≡ value b → a ≡ b
value_one [] [] h k n e = refl
value_one [] (b ∷ bs) h k n e = absurd cc
value_one (a ∷ as') [] h k n e = absurd cc
value_one (a ∷ as') (b ∷ bs) h k n e =
    let n2 : length as' ≡ length bs = cc in
    let p : value as' < 256 ^ length as' = value_below as' h.1 in
    let q : value bs < 256 ^ length as' = rw n2 (value_below bs k.1) in
    let e2 : a * 256 ^ length as' + value as' ≡ b * 256 ^ length as' + value bs = e ∙ ap (λ (u : ℕ). b * 256 ^ u + value bs) (sym n2) in
    let first : a ≡ b = sym (div-mul-add a (256 ^ length as') (value as') p) ∙ ap (λ (u : ℕ). u / 256 ^ length as') e2 ∙ div-mul-add b (256 ^ length as') (value bs) q in
    let rest : value as' ≡ value bs = omega (arith, e2, ap (λ (u : ℕ). u * 256 ^ length as') first) in
    let tails = value_one as' bs h.1 k.1 n2 rest in
    cc

-- no power of 256 is 0
pub pow256_pos : (k : ℕ) → 0 < 256 ^ k
pow256_pos zero = omega arith
pow256_pos (suc k) = omega (arith, pow-suc 256 k, pow256_pos k)

-- the k bytes of n
pub to_digits : ℕ → ℕ → List ℕ
to_digits zero n = []
to_digits (suc k) n = n / 256 ^ k ∷ to_digits k (n % 256 ^ k)

-- a number that fits k bytes has k bytes that stand for it
pub to_digits_digits : (k n : ℕ) → n < 256 ^ k → Digits k (to_digits k n) n
unfolding to_digits
to_digits_digits zero n h = record { width = refl; bytes = tt; number = omega arith }
to_digits_digits (suc k) n h =
    let p : 0 < 256 ^ k = pow256_pos k in
    let r = to_digits_digits k (n % 256 ^ k) (mod_below n (256 ^ k) p) in
    record {
      width = ap suc r.width;
      bytes = ((div-lt_iff_lt-mul p).1 (omega (arith, h, pow-suc 256 k)), r.bytes);
      number = rw r.width (rw r.number (div-add-mod' n (256 ^ k)));
    }

-- a number that k bytes stand for fits k bytes
pub digits_below : (k : ℕ) (b : List ℕ) (n : ℕ) → Digits k b n → n < 256 ^ k
digits_below k b n p = rw (← p.width) (rw (← p.number) (value_below b p.bytes))

-- one number has one spelling in k bytes
pub digits_one : (k : ℕ) (a b : List ℕ) (n : ℕ) → Digits k a n → Digits k b n → a ≡ b
digits_one k a b n p q = value_one a b p.bytes q.bytes (p.width ∙ sym q.width) (p.number ∙ sym q.number)

-- so it is the least one
pub digits_least : (k : ℕ) (a : List ℕ) (n : ℕ) → Digits k a n → IsLeast (λ t. Digits k t n) a
digits_least k a n p = record { spelled = p; least = λ t q. inl (digits_one k t a n q p) }

-- spellings in k bytes that begin one byte list are equal, and so are their numbers
pub digits_agree : (k : ℕ) (a b x y : List ℕ) (m n : ℕ) → Digits k a m → Digits k b n → a ++ x ≡ b ++ y → (a ≡ b) × (m ≡ n)
digits_agree k a b x y m n p q e =
    let h = split_at a b x y (p.width ∙ sym q.width) e in
    (h.0, sym p.number ∙ ap value h.0 ∙ q.number)

-- k bytes are a length field
pub digits_field : (k : ℕ) → IsLengthField (Digits k) (λ n. k)
digits_field k = record { one = digits_agree k; alone = digits_one k; measures = λ a n p. sym p.width }

-- ---- numbers as values

-- numbers of k bytes meet the laws
pub number_lawful : (k : ℕ) → k < 2 ^ 64 → IsLawful (number k) (λ v. k)
number_lawful k small = record {
  one = number_one;
  alone = number_alone;
  written = number_written;
  announces = number_announces;
} where
  number_one : (s t x y : List ℕ) (v w : Tree) → number k Reading s v → number k Reading t w → s ++ x ≡ t ++ y → (s ≡ t) × (v ≡ w)
  number_one s t x y (Number m) (Number n) p q e = let h = digits_agree k s t x y m n p q e in (h.0, ap Number h.1)
  number_one s t x y _ _ p q e = absurd search

  number_alone : (s t : List ℕ) (v : Tree) → number k Writing s v → number k Writing t v → s ≡ t
  number_alone s t (Number n) p q = digits_one k s t n p q
  number_alone s t _ p q = absurd p

  number_written : (s : List ℕ) (v : Tree) → number k Reading s v → number k Writing s v
  number_written s (Number n) p = p
  number_written s _ p = absurd p

  number_announces : (s : List ℕ) (v : Tree) → number k Writing s v → k ≡ capped (length s)
  number_announces s (Number n) p = omega (arith, p.width)
  number_announces s _ p = absurd p

-- ---- bytes that are spelled by themselves

-- byte lists that stand for one value are equal
pub number_trees_one : (a b : List ℕ) → number_trees a ≡ number_trees b → a ≡ b
number_trees_one [] [] e = refl
number_trees_one [] (b ∷ bs) e = absurd cc
number_trees_one (a ∷ as') [] e = absurd cc
number_trees_one (a ∷ as') (b ∷ bs) e =
    let tails : number_trees as' ≡ number_trees bs = cc in
    let h = number_trees_one as' bs tails in
    cc

-- arrays of k bytes meet the laws
pub array_lawful : (k : ℕ) → k < 2 ^ 64 → IsLawful (array k) (λ v. k)
array_lawful k small = record {
  one = λ s t x y v w p q e. let h = split_at s t x y (p.width ∙ sym q.width) e in (h.0, p.same ∙ ap number_trees h.0 ∙ sym q.same);
  alone = λ s t v p q. number_trees_one s t (sym p.same ∙ q.same);
  written = λ s v p. p;
  announces = λ s v p. omega (arith, p.width);
}
