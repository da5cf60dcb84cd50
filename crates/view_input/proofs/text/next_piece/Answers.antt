use Rattle.std.proofs.Common.{arith}
use Rattle.view_input.proofs.Reading.{interrupted_again}
use Rattle.view_input.proofs.text.next_piece.Goals as goal

pub returns-in-Ok-clause-gave : goal.returns-in-Ok-clause-gave
returns-in-Ok-clause-gave g c =
    g.met.R.Source.gives_in_order _ _ _ _ _ c.loop-row.invariant.gave c.in-Ok.ensures.gave

pub returns-in-Err-NoMemory-clause-kept : goal.returns-in-Err-NoMemory-clause-kept
returns-in-Err-NoMemory-clause-kept g c =
    g.met.R.Source.gives_in_order _ _ _ _ _ c.loop-row.invariant.gave c.in-Err-NoMemory.ensures.gave

pub returns-in-Err-Failed-clause-kept : goal.returns-in-Err-Failed-clause-kept
returns-in-Err-Failed-clause-kept g c =
    g.met.R.Source.gives_in_order _ _ _ _ _ c.loop-row.invariant.gave c.in-Err-Failed.ensures.gave

pub loop-row-preserved : goal.loop-row-preserved
loop-row-preserved g c =
    let raised = rw c.in-Err-Interrupted.field-0-is at c.in-Err-Interrupted.ensures.counted in
    record {
      gave = g.met.R.Source.gives_in_order _ _ _ _ _ c.loop-row.invariant.gave c.in-Err-Interrupted.ensures.gave;
      retried = interrupted_again c.loop-row.invariant.retried raised;
      counted = omega (arith, c.loop-row.invariant.counted, raised.1);
    }
