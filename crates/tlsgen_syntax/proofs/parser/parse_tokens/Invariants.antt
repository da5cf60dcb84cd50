use Rattle.std.proofs.Common.{◌≡◌}
use Rattle.tlsgen_syntax.specs.Signs.{count_left, each_then, definition_then, signs, signs_left}
use Rattle.tlsgen_syntax.proofs.parser.parse_tokens.Given as goal

abbrev pub invariant-more : goal.invariant-more
invariant-more l = signs l.tokens ≡ each_then definition_then l.definitions.items (signs_left l.left)

abbrev pub decreases-more : goal.decreases-more
decreases-more l = count_left l.left
