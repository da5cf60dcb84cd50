use Rattle.std.proofs.Common.{◌≡◌, ◌*◌, ◌/◌, ◌<◌, length, take, length-take-le, arith, rules}
use Rattle.std.proofs.lemmas.Nat.{div-add-mod'}
use Rattle.tls_codec_grammar.specs.Tree.{trees}
use Rattle.tls_codec_validate.proofs.Runs.{run_content}
use Rattle.tls_codec_validate.proofs.elements.skip_run.Goals as goal

pub returns : goal.returns
returns g c at =
    let x = c.args.bytes.now in
    let n = c.args.length in
    let k = c.in-Some.width in
    let some : 0 < k = search rules in
    let count : n ≡ n / k * k = omega (arith, div-add-mod' n k, c.if-length-width-ne0.false) in
    let width : length (take n x) ≡ n = length-take-le n x (omega arith) in
    let bytes = rw c.split_at.ensures.front at c.see_bytes.ensures in
    let run = run_content some (c.in-Some.ensures at) (n / k) (take n x) bytes (omega (arith, width, count)) in
    record {
      value = trees (λ v. v) run.0;
      begins = record { front = take n x; whole = search rules; spelled = (width, run.1) };
    }
