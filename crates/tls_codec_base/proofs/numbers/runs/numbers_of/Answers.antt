use Rattle.std.proofs.Common.{◌≡◌, ◌*◌, ◌/◌, ◌++◌, ◌∙◌, List, ℕ, append-nil, ap, arith, length, map, refl, sym}
use Rattle.std.proofs.Math.ListN.{drop_of_length-le}
use Rattle.std.specs.Simd.{first_chunks}
use Rattle.std.proofs.lemmas.Nat.{div-add-mod'}
use Rattle.tls_codec_wire.specs.Digits.{value}
use Rattle.tls_codec_wire.proofs.Bytes.{are_bytes}
use Rattle.tls_codec_base.proofs.NumberRuns.{groups_content, one_number_more}
use Rattle.tls_codec_base.proofs.numbers.runs.numbers_of.Goals as goal

pub loop-group-init : goal.loop-group-init
loop-group-init g c = record {
  read = rw c.in_ok-numbers.ensures.items refl;
  count = c.in_ok-numbers.ensures.len;
  room = c.in_ok-numbers.ensures.exact;
}

pub loop-group-preserved : goal.loop-group-preserved
loop-group-preserved g c =
    let before = c.loop-group.invariant in
    record {
      read = one_number_more g.T.HasDigits.number _ _ _ c.loop-group.numbers.items c.of_digits.result c.push_reserved.new.self.items c.loop-group-test.true c.group-item.is before.read c.of_digits.ensures c.push_reserved.ensures.items;
      count = omega (arith, before.count, c.push_reserved.ensures.len);
      room = omega (arith, before.room, c.push_reserved.ensures.capacity);
    }

pub returns-clause-ok : goal.returns-clause-ok
returns-clause-ok g c whole =
    let x = c.args.digits.now in
    let k = g.row.K in
    let m = length x / k in
    let f = g.T.HasDigits.number in
    let items = c.loop-group.numbers.items in
    let count : length x ≡ m * k = omega (arith, div-add-mod' (length x) k, whole) in
    let small = are_bytes x (λ i. omega (arith, c.type_inv.digits i)) in
    let groups = c.as_chunks.result.0.now in
    let all : groups ≡ first_chunks k m x = c.as_chunks.ensures.front in
    let none = drop_of_length-le groups c.loop-group-test.false in
    let same = sym (append-nil (map f items)) ∙ ap (λ (gs : List (List ℕ)). map f items ++ map value gs) (sym none) ∙ c.loop-group.invariant.read ∙ ap (map value) all in
    groups_content k m f items x c.requires.some small count same
