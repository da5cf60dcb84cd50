use Rattle.std.proofs.Common.{◌≡◌, ◌<◌, length}
use Rattle.tlsgen_syntax.specs.declared.token.Mark.TheVariants.{Comma}
use Rattle.tlsgen_syntax.specs.Signs.{count_left, separated_then, signs_left, source_value_then}
use Rattle.tlsgen_syntax.proofs.parser.enums.values.Given as goal

abbrev pub invariant-more : goal.invariant-more
invariant-more l = record {
  read : signs_left l.fn.tokens ≡ separated_then Comma source_value_then l.values.items (signs_left l.tokens);
  some : 0 < length l.values.items;
  fewer : count_left l.tokens < count_left l.fn.tokens;
}

abbrev pub decreases-more : goal.decreases-more
decreases-more l = count_left l.tokens
