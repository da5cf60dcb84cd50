use Rattle.std.proofs.Common.{◌≡◌}
use Rattle.tlsgen_syntax.specs.Signs.{signs}
use Rattle.tlsgen_syntax.proofs.remarks.Remarks.read_tokens.Given as goal

abbrev pub invariant-loop-at : goal.invariant-loop-at
invariant-loop-at l = signs l.tokens.items ≡ signs l.fn.tokens.items
