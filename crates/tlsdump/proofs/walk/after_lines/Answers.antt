use Rattle.tlsdump.proofs.Rowed.{none_more, one_more}
use Rattle.tlsdump.proofs.walk.after_lines.Goals as goal

pub loop-line-preserved : goal.loop-line-preserved
loop-line-preserved c x is =
    c.loop-line.invariant x (one_more _ _ _ _ _ x c.loop-line-test.true c.in-Some.ensures is)

pub returns : goal.returns
returns c = c.loop-line.invariant _ (none_more _ _ _ c.loop-line-test.false)
