use Rattle.std.proofs.Common.{length}
use Rattle.tlsgen_syntax.proofs.lexer.lex.Given as goal

abbrev pub decreases-more : goal.decreases-more
decreases-more l = length l.cursor.left.now
