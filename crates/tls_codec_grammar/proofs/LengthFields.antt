-- Length fields: digits, and gaps that they are put into.
use Rattle.std.proofs.Common.{◌≡◌, ℕ, ◌+◌, ◌-◌, ◌^◌, ◌<◌, ◌≤◌, List, ◌++◌, length, take, drop, take-append-drop, sym, ap, subst, ◌∙◌, arith, append_assoc, length-append, length-take-le}
use Rattle.std.proofs.Math.Nat.{mod-eq_of_lt}
use Rattle.std.proofs.Math.Seq.{take-add, take-length}
use Rattle.std.specs.Int.{bytes_high_first}
use Rattle.tls_codec_wire.specs.Digits.{Digits}
use Rattle.tls_codec_wire.proofs.BigEndian.{AreBytes-high_first, length-high_first, value-high_first}
use Rattle.tls_codec_wire.proofs.VarintForms.{drop-high_first}
use Rattle.tls_codec_grammar.specs.Gaps.{FitGap}

-- ---- k bytes

-- the last k bytes of a number that fits them spell it
pub last_digits : (k n : ℕ) → k ≤ 8 → n < 256 ^ k → Digits k (drop (8 - k) (bytes_high_first 8 n)) n
last_digits k n small fits =
    let eight : 8 ≡ 8 - k + k = omega (arith, small) in
    let last : drop (8 - k) (bytes_high_first 8 n) ≡ bytes_high_first k n = ap (λ (j : ℕ). drop (8 - k) (bytes_high_first j n)) eight ∙ drop-high_first (8 - k) k n in
    subst (λ (b : List ℕ). Digits k b n) (sym last) (record {
      width = length-high_first k n;
      bytes = AreBytes-high_first k n;
      number = value-high_first k n ∙ mod-eq_of_lt fits;
    })

-- ---- gaps

-- a form as the slice of an array that it ends
pub slice_form : (P : List ℕ → Type 0) (b : List ℕ) (k : ℕ) → length b ≡ 8 → k ≤ 8 → P (drop k b) → P (take (8 - k) (drop k b))
slice_form P b k width le p =
    let parts = length-append (take k b) (drop k b) in
    let size : length (drop k b) ≡ 8 - k = omega (arith, width, parts, ap length (take-append-drop k b), length-take-le k b (omega (arith, width, le))) in
    subst P (sym (ap (λ (n : ℕ). take n (drop k b)) (sym size) ∙ take-length (drop k b))) p

-- the first bytes after a place
part_after : (at w : ℕ) (a : List ℕ) → at + w ≤ length a → (take (at + w) a ≡ take at a ++ take w (drop at a)) × (length (take w (drop at a)) ≡ w)
part_after at w a le =
    let parts = length-append (take at a) (drop at a) in
    let rest : w ≤ length (drop at a) = omega (arith, le, parts, ap length (take-append-drop at a), length-take-le at a (omega (arith, le))) in
    (take-add at w a, length-take-le w (drop at a) rest)

-- more bytes come after it
pub gap_widened : {a b : List ℕ} {at gap more width : ℕ} → FitGap a b (at + gap) 0 more → at + gap ≤ length a → width ≡ gap + more → FitGap a b at gap width
gap_widened {a} {b} {at} {gap} {more} {width} p le e =
    let part = part_after at gap a le in
    let zero_more : at + gap + 0 ≡ at + gap = omega arith in
    record {
      between = take gap (drop at a) ++ p.between;
      held = p.held ∙ ap (λ (n : ℕ). take (at + gap) a ++ (p.between ++ drop n a)) zero_more ∙ ap (λ (u : List ℕ). u ++ (p.between ++ drop (at + gap) a)) part.0
          ∙ append_assoc (take at a) (take gap (drop at a)) (p.between ++ drop (at + gap) a) ∙ ap (λ (u : List ℕ). take at a ++ u) (sym (append_assoc (take gap (drop at a)) p.between (drop (at + gap) a)));
      count = omega (arith, e, p.count, part.1, length-append (take gap (drop at a)) p.between);
    }

-- its last bytes were taken out
pub gap_narrowed : {a b : List ℕ} {at gap width : ℕ} (less : ℕ) → b ≡ take (at + width) a ++ drop (at + width + less) a → at + gap ≤ length a → gap ≡ width + less → FitGap a b at gap width
gap_narrowed {a} {b} {at} {gap} {width} less held le e =
    let part = part_after at width a (omega (arith, le, e)) in
    let place : at + width + less ≡ at + gap = omega (arith, e) in
    record {
      between = take width (drop at a);
      held = held ∙ ap (λ (n : ℕ). take (at + width) a ++ drop n a) place ∙ ap (λ (u : List ℕ). u ++ drop (at + gap) a) part.0 ∙ append_assoc (take at a) (take width (drop at a)) (drop (at + gap) a);
      count = part.1;
    }
