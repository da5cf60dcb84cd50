use Rattle.std.proofs.Common.{◌≤◌, length}
use Rattle.tlsgen_syntax.proofs.lexer.skip_blanks.Given as goal

abbrev pub invariant-more : goal.invariant-more
invariant-more l = length l.cursor.left.now ≤ length l.fn.cursor.left.now

abbrev pub decreases-more : goal.decreases-more
decreases-more l = length l.cursor.left.now
