use Rattle.std.proofs.Common.{◌≡◌}
use Rattle.tlsgen_syntax.specs.Signs.{signs}
use Rattle.tlsgen_syntax.proofs.remarks.give.Given as goal

abbrev pub invariant-loop-comment : goal.invariant-loop-comment
invariant-loop-comment l = signs l.tokens.items ≡ signs l.fn.tokens.items
