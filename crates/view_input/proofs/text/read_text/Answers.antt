use Rattle.std.proofs.Common.{arith, ap, Ok, length-take}
use Rattle.tls_codec.proofs.Given.{gave_both}
use Rattle.tls_codec.specs.Devices.{only_interrupted_trans}
use Rattle.view_input.proofs.Reading.{all_given, gave_no_more}
use Rattle.view_input.proofs.text.read_text.Goals as goal

pub returns-in_err-count-clause-gave : goal.returns-in_err-count-clause-gave
returns-in_err-count-clause-gave g c =
    gave_both g.met.R.Source.gives_in_order c.loop-piece.invariant.gave c.in_err-count.ensures.kept

pub returns-then-count-eq0-clause-gave : goal.returns-then-count-eq0-clause-gave
returns-then-count-eq0-clause-gave g c =
    gave_both g.met.R.Source.gives_in_order c.loop-piece.invariant.gave c.in_ok-count.ensures.gave

pub returns-then-count-eq0-clause-ok : goal.returns-then-count-eq0-clause-ok
returns-then-count-eq0-clause-ok g c =
    let nothing = rw c.if-count-eq0.true at c.in_ok-count.ensures.gave in
    let held = gave_no_more g.met.R.Source.gives_in_order c.loop-piece.invariant.gave nothing in
    let at_end = c.in_ok-count.ensures.end (ap Ok c.if-count-eq0.true) (simp length-take (omega arith)) in
    record {
      held = held;
      at_end = at_end;
      whole = all_given _ _ _ (g.met.R.Source.gives_from_front _ _ _ held) at_end;
      size = omega arith;
      retried = only_interrupted_trans c.loop-piece.invariant.retried c.in_ok-count.ensures.retried;
    }

pub returns-in_err-extend_from_slice-clause-gave :
    goal.returns-in_err-extend_from_slice-clause-gave
returns-in_err-extend_from_slice-clause-gave g c =
    gave_both g.met.R.Source.gives_in_order c.loop-piece.invariant.gave c.in_ok-count.ensures.gave
