use Rattle.std.proofs.Common.{◌≡◌, ◌≤◌}
use Rattle.tlsgen_syntax.specs.Signs.{count_left, each_then, source_part_then, signs_left}
use Rattle.tlsgen_syntax.proofs.parser.structs.source_parts.Given as goal

abbrev pub invariant-more : goal.invariant-more
invariant-more l = record {
  read : signs_left l.fn.tokens ≡ each_then source_part_then l.parts.items (signs_left l.tokens);
  fewer : count_left l.tokens ≤ count_left l.fn.tokens;
}

abbrev pub decreases-more : goal.decreases-more
decreases-more l = count_left l.tokens
