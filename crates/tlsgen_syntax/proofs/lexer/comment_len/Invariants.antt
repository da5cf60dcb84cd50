use Rattle.std.proofs.Common.{◌-◌}
use Rattle.tlsgen_syntax.specs.Comments.{GoesOn}
use Rattle.tlsgen_syntax.proofs.lexer.comment_len.Given as goal

abbrev pub invariant-loop-i : goal.invariant-loop-i
invariant-loop-i l = GoesOn l.bytes (l.i - 1)
