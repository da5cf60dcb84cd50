use Rattle.std.proofs.Common.{◌≡◌, ℕ, ◌-◌, ◌^◌, List, ◌++◌, length, take, drop, ap, subst, ◌∙◌, arith, rules, length-drop}
use Rattle.std.proofs.lemmas.List.{take_all}
use Rattle.tls_codec_wire.specs.Varint.{VectorLength, width_below}
use Rattle.tls_codec_wire.specs.VarintCalls.{InsertedLength}
use Rattle.tls_codec_wire.proofs.vlen.insert_length.Goals as goal
use Rattle.tls_codec_wire.proofs.vlen.insert_length.Goals.{in-7+in_ok-insert_bytes-in-7, in-6+in_ok-insert_bytes-in-6, in_default-from+in_ok-insert_bytes-in_default-from}

-- the form of a length is what is left of eight bytes
inserted : (old new b : List ℕ) (at k n width : ℕ) → length b ≡ 8 → n ≡ length old - at → VectorLength (drop k b) n → width ≡ width_below (2 ^ 30) n
    → new ≡ take at old ++ (take (8 - k) (drop k b) ++ drop at old) → InsertedLength old new at width
inserted old new b at k n width eight same spelled wide held = record {
  form = drop k b;
  spelled = subst (λ (m : ℕ). VectorLength (drop k b) m) same spelled;
  held = held ∙ ap (λ (u : List ℕ). take at old ++ (u ++ drop at old)) (take_all (8 - k) (drop k b) (omega (arith, length-drop k b, eight)));
  count = let least = spelled.least in let below = spelled.below in grind arith;
}

pub returns-clause-ok : goal.returns-clause-ok
returns-clause-ok c =
    let b = c.in-Some.found.0 in
    let eight : length b ≡ 8 = search rules in
    let spelled = c.in-Some.ensures.1 in
    let n = c.len.result - c.args.at in
    let same : n ≡ length c.args.out.now.items - c.args.at = omega (arith, c.len.ensures) in
    elim c.match-from.branch [
      | in-7+in_ok-insert_bytes-in-7 w ↦ rw w.out-is (inserted _ _ b _ 7 n _ eight same (subst (λ (k : ℕ). VectorLength (drop k b) n) w.in-7.is spelled) c.length_width-width.ensures w.in_ok-insert_bytes-in-7.ensures.items)
      | in-6+in_ok-insert_bytes-in-6 w ↦ rw w.out-is (inserted _ _ b _ 6 n _ eight same (subst (λ (k : ℕ). VectorLength (drop k b) n) w.in-6.is spelled) c.length_width-width.ensures w.in_ok-insert_bytes-in-6.ensures.items)
      | in_default-from+in_ok-insert_bytes-in_default-from w ↦ rw w.out-is (inserted _ _ b _ _ n _ eight same spelled c.length_width-width.ensures w.in_ok-insert_bytes-in_default-from.ensures.items)
    ]
