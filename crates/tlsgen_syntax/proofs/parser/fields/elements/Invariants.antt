use Rattle.std.proofs.Common.{◌≡◌, ◌<◌, length}
use Rattle.tlsgen_syntax.specs.declared.token.Mark.TheVariants.{Comma}
use Rattle.tlsgen_syntax.specs.Signs.{count_left, separated_then, signs_left, number_then}
use Rattle.tlsgen_syntax.proofs.parser.fields.elements.Given as goal

abbrev pub invariant-more : goal.invariant-more
invariant-more l = record {
  read : signs_left l.fn.tokens ≡ separated_then Comma number_then l.elements.items (signs_left l.tokens);
  some : 0 < length l.elements.items;
  fewer : count_left l.tokens < count_left l.fn.tokens;
}

abbrev pub decreases-more : goal.decreases-more
decreases-more l = count_left l.tokens
