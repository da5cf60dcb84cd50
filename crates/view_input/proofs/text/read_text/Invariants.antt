-- What came is in the text.
use Rattle.std.proofs.Common.{length, ◌+◌, ◌-◌, ◌≤◌}
use Rattle.tls_codec.specs.Devices.{OnlyInterrupted}
use Rattle.view_input.specs.Input.{longest}
use Rattle.view_input.proofs.text.read_text.Given as goal

abbrev pub invariant-loop-piece : goal.invariant-loop-piece
invariant-loop-piece g l = record {
  gave : g.R.Source.given l.fn.input l.text.items l.input;
  retried : OnlyInterrupted (g.R.Source.counts l.fn.input) (g.R.Source.counts l.input);
  size : length l.text.items ≤ longest + 1;
}

-- a piece brings the end nearer
abbrev pub decreases-loop-piece : goal.decreases-loop-piece
decreases-loop-piece g l = longest + 1 - length l.text.items
