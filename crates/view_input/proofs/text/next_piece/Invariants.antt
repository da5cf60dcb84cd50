-- Nothing was given so far, and each call was an interruption.
use Rattle.std.proofs.Common.{[]}
use Rattle.tls_codec.specs.Devices.{OnlyInterrupted, RoseBy}
use Rattle.view_input.proofs.text.next_piece.Given as goal

abbrev pub invariant-loop-row : goal.invariant-loop-row
invariant-loop-row g l = record {
  gave : g.R.Source.given l.fn.input [] l.input;
  retried : OnlyInterrupted (g.R.Source.counts l.fn.input) (g.R.Source.counts l.input);
  counted : RoseBy l._row (g.R.Source.counts l.fn.input).interruptions (g.R.Source.counts l.input).interruptions;
}
