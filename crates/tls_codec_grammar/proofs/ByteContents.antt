-- Bytes as the content of one-byte numbers.
use Rattle.std.proofs.Common.{◌≡◌, ◌↔◌, ℕ, ◌+◌, ◌^◌, ◌<◌, List, [], ◌∷◌, ◌++◌, length, inl, refl, sym, ap, subst, ◌∙◌, arith, length-append}
use Rattle.tls_codec_wire.specs.Digits.{AreBytes, Digits}
use Rattle.tls_codec_grammar.specs.Tree.{Tree, Number, Empty, Join, number_trees}
use Rattle.tls_codec_grammar.specs.Grammar.{Direction, Reading, Writing, Grammar, Admits, Counted, number, content, counted, sized}
use Rattle.tls_codec_grammar.specs.Shortest.{IsShortest}
use Rattle.tls_codec_grammar.specs.Announced.{capped, content_length, counted_length}
use Rattle.tls_codec_grammar.specs.Decoding.{NoneBegins}
use Rattle.tls_codec_grammar.specs.laws.NumberLaws.{number_trees_one}

-- what comes after a prefix of bytes is bytes
pub AreBytes-right : (a b : List ℕ) → AreBytes (a ++ b) → AreBytes b
AreBytes-right [] b h = h
AreBytes-right (x ∷ xs) b h = AreBytes-right xs b h.1

-- ---- their spelling

admits_some : (d : Direction) (b : ℕ) (s : List ℕ) → Admits d (b ∷ s)
admits_some Reading b s = omega arith
admits_some Writing b s = tt

-- bytes are the content of themselves
pub bytes_content : (d : Direction) (c : List ℕ) → AreBytes c → content (number 1) d c (number_trees c)
bytes_content d [] bytes = refl
bytes_content d (b ∷ bs) bytes = record {
  front = b ∷ [];
  rest = bs;
  whole = refl;
  first = (record { width = refl; bytes = (bytes.0, tt); number = omega arith }, admits_some d b []);
  second = bytes_content d bs bytes.1;
}

-- a byte stands for itself
one_digit : (s : List ℕ) (n : ℕ) → Digits 1 s n → s ≡ n ∷ []
one_digit [] n p = absurd (omega (arith, p.width))
one_digit (b ∷ []) n p = let same : b ≡ n = omega (arith, p.number) in cc
one_digit (b ∷ c ∷ bs) n p = absurd (omega (arith, p.width))

-- and nothing else has them as its content
pub content_bytes : (d : Direction) (c : List ℕ) (v : Tree) → content (number 1) d c v → v ≡ number_trees c
content_bytes d c Empty p = ap number_trees (sym p)
content_bytes d c (Join (Number n) vs) p =
    let h : p.front ≡ n ∷ [] = one_digit p.front n p.first.0 in
    let whole : c ≡ n ∷ p.rest = p.whole ∙ ap (λ (u : List ℕ). u ++ p.rest) h in
    ap (λ (u : Tree). Join (Number n) u) (content_bytes d p.rest vs p.second) ∙ ap number_trees (sym whole)
content_bytes d c _ p = absurd search

-- what is spelled as these bytes is these bytes
pub content_same_bytes : (d : Direction) (s c : List ℕ) → content (number 1) d s (number_trees c) → s ≡ c
content_same_bytes d s c p = number_trees_one s c (sym (content_bytes d s (number_trees c) p))

-- bytes are their shortest content
pub bytes_shortest : (c : List ℕ) → AreBytes c → IsShortest (content (number 1)) c (number_trees c)
bytes_shortest c bytes = record { spelled = bytes_content Writing c bytes; least = λ t q. inl (content_same_bytes Writing t c q) }

-- ---- their number

pub bytes_length : (c : List ℕ) → content_length (λ v. 1) (number_trees c) ≡ capped (length c)
bytes_length [] = refl
bytes_length (b ∷ bs) = omega (arith, bytes_length bs)

-- so the announced length is their number and the width of that
pub bytes_announced : (width : ℕ → ℕ) (c : List ℕ) → length c < 2 ^ 64 → counted_length width (content_length (λ v. 1)) (number_trees c) ≡ capped (width (length c) + length c)
bytes_announced width c fits =
    let same : content_length (λ v. 1) (number_trees c) ≡ length c = omega (arith, bytes_length c, fits) in
    ap (λ (n : ℕ). capped (width n + n)) same

-- fewer bytes than n don't begin with n bytes
pub sized_short : (n : ℕ) (inside : Grammar) (x : List ℕ) → length x < n → NoneBegins (sized n inside) x
sized_short n inside x lt v rest b = omega (arith, ap length b.whole, length-append b.front rest, b.spelled.0)

-- after a length field, bytes are spelled as the field's spelling of their number, and themselves
pub bytes_counted : (spells : List ℕ → ℕ → Type 0) (d : Direction) (s c : List ℕ) → AreBytes c → (counted spells (content (number 1)) d s (number_trees c) ↔ Counted spells s (λ u. u ≡ c))
bytes_counted spells d s c bytes = (
  λ p. record { count = p.count; inside = p.inside; whole = p.whole; counts = p.counts; is_inside = content_same_bytes d p.inside c p.is_inside },
  λ p. record { count = p.count; inside = p.inside; whole = p.whole; counts = p.counts; is_inside = subst (λ u. content (number 1) d u (number_trees c)) (sym p.is_inside) (bytes_content d c bytes) },
)
