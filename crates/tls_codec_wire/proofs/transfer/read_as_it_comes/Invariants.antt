-- What came is in the buffer, and a row of interruptions was counted.
use Rattle.std.proofs.Common.{length, take, ◌-◌, ◌≡◌, ◌+◌, ◌*◌, ◌≤◌}
use Rattle.tls_codec_wire.specs.Counts.{OnlyInterrupted, RoseBy}
use Rattle.tls_codec_wire.specs.Digits.{AreBytes}
use Rattle.tls_codec_wire.proofs.transfer.read_as_it_comes.Given as goal

abbrev pub invariant-loop-at : goal.invariant-loop-at
invariant-loop-at g l = record {
  within : l.at ≤ length l.into;
  retries : l.retries ≤ 16;
  gave : g.R.Source.given l.fn.src (take l.at l.into) l.src;
  retried : OnlyInterrupted (g.R.Source.counts l.fn.src) (g.R.Source.counts l.src);
  counted : RoseBy l.retries (g.R.Source.counts l.fn.src).interruptions (g.R.Source.counts l.src).interruptions;
  bytes : AreBytes l.into;
  tried : (g.R.Source.counts l.src).interruptions ≤ (g.R.Source.counts l.fn.src).interruptions + (16 * l.at + l.retries);
  moved : length l.into ≤ l.at → l.retries ≡ 0;
  untouched : length l.into ≡ 0 → l.src ≡ l.fn.src;
}

-- a byte brings the end nearer, and an interruption the end of its row
abbrev pub decreases-loop-at : goal.decreases-loop-at
decreases-loop-at g l = 17 * (length l.initial.into - l.at) + (16 - l.retries)
