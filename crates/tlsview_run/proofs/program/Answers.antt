use Rattle.std.proofs.Common.{ap}
use Rattle.tlsview_run.proofs.program.Goals as goal

pub returns : goal.returns
returns g c = record {
  words = c.args-2.result;
  old = c.new-input.result;
  new = c.answer-status.new.input;
  before = c.new-out.result;
  after = c.answer-status.new.out;
  input = ap g.R.Read.remaining c.new-input.ensures.wrapped;
  input_counts = c.new-input.ensures.counts;
  output = ap g.W.Write.contents c.new-out.ensures.wrapped;
  output_counts = c.new-out.ensures.counts;
  answered = rw c.from.ensures c.answer-status.ensures;
}
