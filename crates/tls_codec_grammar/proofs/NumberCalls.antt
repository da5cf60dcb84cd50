-- What the calls on digits return, over the width.
use Rattle.std.proofs.Common.{◌≡◌, ℕ, suc, ◌-◌, ◌<◌, ◌≤◌, List, [], ◌∷◌, ◌++◌, length, take, drop, take-append-drop, length-take-le, get_or, refl, sym, ap, subst, ◌∙◌, arith}
use Rattle.std.specs.Int.{byte_worth, sum_through}
use Rattle.tls_codec_wire.proofs.Bytes.{are_bytes, AreBytes-left}
use Rattle.tls_codec_wire.specs.Digits.{AreBytes, Digits, value}
use Rattle.tls_codec_grammar.specs.Tree.{Number}
use Rattle.tls_codec_grammar.specs.Grammar.{number}
use Rattle.tls_codec_grammar.specs.Shortest.{IsShortest}
use Rattle.tls_codec_grammar.specs.Decoding.{Begins}
use Rattle.tls_codec_grammar.specs.laws.NumberLaws.{digits_least}
use Rattle.tls_codec_wire.proofs.BigEndian.{sum_through-digits}

-- bytes spell the number that they stand for
pub own_digits : (b : List ℕ) → AreBytes b → Digits (length b) b (value b)
own_digits b bytes = record { width = refl; bytes = bytes; number = refl }

-- the first k of some bytes are bytes
pub front_are_bytes : (k : ℕ) (x front : List ℕ) → front ≡ take k x → ((i : ℕ) → get_or x i 0 < 256) → AreBytes front
front_are_bytes k x front f small = subst AreBytes (sym f) (AreBytes-left (take k x) (drop k x) (subst AreBytes (sym (take-append-drop k x)) (are_bytes x small)))

-- they are digits
pub number_begins : (k : ℕ) (x front rest : List ℕ) → front ≡ take k x → rest ≡ drop k x → k ≤ length x → ((i : ℕ) → get_or x i 0 < 256) → Begins (number k) x (Number (value front)) rest
number_begins k x front rest f r fits small = record {
  front = front;
  whole = sym (take-append-drop k x) ∙ ap (λ (u : List ℕ). u ++ drop k x) (sym f) ∙ ap (λ (u : List ℕ). front ++ u) (sym r);
  spelled = record {
    width = ap length f ∙ length-take-le k x fits;
    bytes = front_are_bytes k x front f small;
    number = refl;
  };
}

-- what holds of the number that digits stand for holds of the one that std makes of them
pub at_digits : (P : ℕ → Type 0) (k n : ℕ) (b : List ℕ) → length b ≡ suc k → n ≡ sum_through (λ i. byte_worth (k - i) (get_or b i 0)) k → P (value b) → P n
at_digits P k n b width e h = subst P (sym (sum_through-digits k b width) ∙ sym e) h

-- bytes are the shortest form of the number that they stand for
pub own_shortest : (b : List ℕ) → ((i : ℕ) → get_or b i 0 < 256) → IsShortest (number (length b)) b (Number (value b))
own_shortest b small = digits_least (length b) b (value b) (own_digits b (are_bytes b small))

-- a byte is the shortest form of its number
pub byte_shortest : (n : ℕ) → n < 256 → IsShortest (number 1) (n ∷ []) (Number n)
byte_shortest n small = digits_least 1 (n ∷ []) n (record { width = refl; bytes = (small, tt); number = omega arith })
