use Rattle.std.proofs.Common.{rules, ◌≡◌, length}
use Rattle.std.proofs.lemmas.List.Sorted.{IsNonDecreasingBy-from_sort}
use Rattle.tls_codec_bench.proofs.median.median.Goals as goal

pub returns : goal.returns
returns c =
    let count : length c.args.figures ≡ 15 = search rules in
    record {
      ordered = c.sort_unstable.new.self;
      same = c.sort_unstable.ensures.permutation;
      rising = IsNonDecreasingBy-from_sort (λ x. x) c.sort_unstable.new.self c.sort_unstable.ensures.sorted;
      at_middle = search (rules, count);
    }
