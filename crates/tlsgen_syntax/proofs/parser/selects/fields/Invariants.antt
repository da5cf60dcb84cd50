use Rattle.std.proofs.Common.{◌≡◌, ◌<◌, length}
use Rattle.tlsgen_syntax.specs.Signs.{case_fields_then, count_left, signs_left}
use Rattle.tlsgen_syntax.proofs.parser.selects.fields.Given as goal

abbrev pub invariant-more : goal.invariant-more
invariant-more l = record {
  read : signs_left l.fn.tokens ≡ case_fields_then l.fields.items (signs_left l.tokens);
  some : 0 < length l.fields.items;
  fewer : count_left l.tokens < count_left l.fn.tokens;
}

abbrev pub decreases-more : goal.decreases-more
decreases-more l = count_left l.tokens
