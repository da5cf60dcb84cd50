use Rattle.std.proofs.Common.{◌≡◌, ◌<◌, length}
use Rattle.tlsgen_syntax.specs.declared.token.Mark.TheVariants.{Dot}
use Rattle.tlsgen_syntax.specs.Signs.{count_left, name_then, separated_then, signs_left}
use Rattle.tlsgen_syntax.proofs.parser.selects.path.Given as goal

abbrev pub invariant-more : goal.invariant-more
invariant-more l = record {
  read : signs_left l.fn.tokens ≡ separated_then Dot name_then l.path.items (signs_left l.tokens);
  some : 0 < length l.path.items;
  fewer : count_left l.tokens < count_left l.fn.tokens;
}

abbrev pub decreases-more : goal.decreases-more
decreases-more l = count_left l.tokens
