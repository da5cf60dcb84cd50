-- Bytes of one width that are a spelling, whichever they are; and such elements in a row.
use Rattle.std.proofs.Common.{◌≡◌, ℕ, zero, suc, ◌+◌, ◌*◌, ◌<◌, ◌≤◌, List, [], ◌∷◌, ◌++◌, length, take, drop, take-append-drop, length-take-le, refl, sym, ap, subst, ◌∙◌, arith, length-append, Option, None, Some, SomeIff, IfSome}
use Rattle.tls_codec_wire.specs.Digits.{AreBytes, value}
use Rattle.tls_codec_wire.proofs.Bytes.{AreBytes-left}
use Rattle.tls_codec_grammar.specs.Tree.{Tree, Number, Empty, Join, number_trees, trees}
use Rattle.tls_codec_grammar.specs.Grammar.{Grammar, Reading, array, content, fields, nothing, number}
use Rattle.tls_codec_grammar.specs.Decoding.{NoneBegins}
use Rattle.tls_codec_grammar.proofs.ByteContents.{AreBytes-right}
use Rattle.tls_codec_base.specs.PartNames.{IsSpelling}
use Rattle.tls_codec_validate.specs.Validated.{BeginsLeaving, EachIs}

pub each_number : (k : ℕ) → EachIs (number k) k
each_number k = record { each = λ x bytes width. (Number (value x), record { width = width; bytes = bytes; number = refl }) }

pub each_array : (k : ℕ) → EachIs (array k) k
each_array k = record { each = λ x bytes width. (number_trees x, record { width = width; bytes = bytes; same = refl }) }

no_bytes : (x : List ℕ) → length x ≡ 0 → IsSpelling nothing x
no_bytes [] width = (Empty, refl)
no_bytes (b ∷ bs) width = absurd (omega (arith, width))

pub each_nothing : EachIs nothing 0
each_nothing = record { each = λ x bytes width. no_bytes x width }

-- the first k of k and m bytes, and the others
both : {first others : Grammar} {k m n : ℕ} → EachIs first k → EachIs others m → n ≡ k + m → (x : List ℕ) → AreBytes x → length x ≡ n → IsSpelling (fields first others) x
both {first} {others} {k} {m} {n} p q sum x bytes width =
    let parts : take k x ++ drop k x ≡ x = take-append-drop k x in
    let first_width : length (take k x) ≡ k = length-take-le k x (omega (arith, width, sum)) in
    let small : AreBytes (take k x ++ drop k x) = subst AreBytes (sym parts) bytes in
    let rest : length (drop k x) ≡ m = omega (arith, width, sum, first_width, ap length parts, length-append (take k x) (drop k x)) in
    let one = p.each (take k x) (AreBytes-left (take k x) (drop k x) small) first_width in
    let more = q.each (drop k x) (AreBytes-right (take k x) (drop k x) small) rest in
    (Join one.0 more.0, record { front = take k x; rest = drop k x; whole = sym parts; first = one.1; second = more.1 })

pub each_fields : {first others : Grammar} {k m n : ℕ} → EachIs first k → EachIs others m → n ≡ k + m → EachIs (fields first others) n
each_fields p q sum = record { each = both p q sum }

-- the same, where the sum may be too great to say
pub each_sum : {first others : Grammar} {k m : ℕ} (P : Type 0) (sum : Option ℕ) → SomeIff sum P (k + m) → EachIs first k → EachIs others m → IfSome sum (EachIs (fields first others))
each_sum P None is p q = tt
each_sum P (Some n) is p q = each_fields p q is.1

-- the last part alone
pub each_last : {last : Grammar} {k : ℕ} → EachIs last k → EachIs (fields last nothing) k
each_last p = each_fields p each_nothing (omega arith)

-- the first k of some bytes
pub front_leaves : {spells : Grammar} {k : ℕ} {x front rest : List ℕ} → EachIs spells k → k ≤ length x → front ≡ take k x → rest ≡ drop k x → AreBytes front → BeginsLeaving spells x rest
front_leaves {spells} {k} {x} {front} {rest} e fits f r bytes =
    let one = e.each front bytes (ap length f ∙ length-take-le k x fits) in record {
      value = one.0;
      begins = record { front = front; whole = sym (take-append-drop k x) ∙ ap (λ (u : List ℕ). u ++ drop k x) (sym f) ∙ ap (λ (u : List ℕ). front ++ u) (sym r); spelled = one.1 };
    }

-- fewer bytes begin with none of k
pub no_number_begins : (k : ℕ) (x : List ℕ) → length x < k → NoneBegins (number k) x
no_number_begins k x few (Number n) rest b = omega (arith, few, b.spelled.width, ap length b.whole, length-append b.front rest)
no_number_begins k x few _ rest b = absurd b.spelled

pub no_array_begins : (k : ℕ) (x : List ℕ) → length x < k → NoneBegins (array k) x
no_array_begins k x few v rest b = omega (arith, few, b.spelled.width, ap length b.whole, length-append b.front rest)

-- m elements of k bytes
pub run_content : {element : Grammar} {k : ℕ} → 0 < k → EachIs element k → (m : ℕ) (x : List ℕ) → AreBytes x → length x ≡ m * k → (xs : List Tree) × content element Reading x (trees (λ v. v) xs)
run_content some e zero [] bytes n = ([], refl)
run_content some e zero (b ∷ bs) bytes n = absurd (omega (arith, n))
run_content {element} {k} some e (suc m) x bytes n =
    let fits : k ≤ length x = omega (arith, n) in
    let parts : take k x ++ drop k x ≡ x = take-append-drop k x in
    let width : length (take k x) ≡ k = length-take-le k x fits in
    let small : AreBytes (take k x ++ drop k x) = subst AreBytes (sym parts) bytes in
    let rest : length (drop k x) ≡ m * k = omega (arith, n, width, ap length parts, length-append (take k x) (drop k x)) in
    let one = e.each (take k x) (AreBytes-left (take k x) (drop k x) small) width in
    let others = run_content some e m (drop k x) (AreBytes-right (take k x) (drop k x) small) rest in
    (one.0 ∷ others.0, record { front = take k x; rest = drop k x; whole = sym parts; first = (one.1, omega (arith, width, some)); second = others.1 })
