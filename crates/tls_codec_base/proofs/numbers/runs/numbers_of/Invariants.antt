-- The numbers so far are those of the groups before the ones to come, and there is room for the others.
use Rattle.std.proofs.Common.{◌≡◌, ◌++◌, drop, length, map, vec_capacity, vec_len}
use Rattle.tls_codec_wire.specs.Digits.{value}
use Rattle.tls_codec_base.proofs.numbers.runs.numbers_of.Given as goal

abbrev pub invariant-loop-group : goal.invariant-loop-group
invariant-loop-group g l = record {
  read : map g.T.HasDigits.number l.numbers.items ++ map value (drop l.group-index l.groups) ≡ map value l.groups;
  count : vec_len l.numbers ≡ l.group-index;
  room : vec_capacity l.numbers ≡ length l.groups;
}
