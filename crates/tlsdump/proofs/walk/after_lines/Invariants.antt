-- What is behind the lines that are left is behind all of them.
use Rattle.std.proofs.Common.{◌≡◌, ◌++◌, ℕ, List}
use Rattle.std.proofs.Math.ListN.{drop}
use Rattle.tlsdump.specs.Rows.{row}
use Rattle.tlsdump.proofs.walk.after_lines.Given as goal

abbrev pub invariant-loop-line : goal.invariant-loop-line
invariant-loop-line l = (x : List ℕ) → l.rest ≡ row (drop l.line-index l.lines) ++ x → l.bytes ≡ row l.lines ++ x
