-- What came is after what the vector had, and a row of interruptions was counted.
use Rattle.std.proofs.Common.{Ok, ◌-◌, ◌≡◌, ◌+◌, ◌*◌, ◌≤◌}
use Rattle.tls_codec_wire.specs.Device.{PulledOnto}
use Rattle.tls_codec_wire.specs.Counts.{OnlyInterrupted, RoseBy}
use Rattle.tls_codec_wire.proofs.gather.gather.Given as goal

abbrev pub invariant-loop-came : goal.invariant-loop-came
invariant-loop-came g l = record {
  within : l.came ≤ l.len;
  retries : l.retries ≤ 16;
  came : PulledOnto g.R.Source.given l.fn.src l.src (Ok l.came) l.fn.bytes.items l.bytes.items;
  retried : OnlyInterrupted (g.R.Source.counts l.fn.src) (g.R.Source.counts l.src);
  counted : RoseBy l.retries (g.R.Source.counts l.fn.src).interruptions (g.R.Source.counts l.src).interruptions;
  tried : (g.R.Source.counts l.src).interruptions ≤ (g.R.Source.counts l.fn.src).interruptions + (16 * l.came + l.retries);
  gathered : l.len ≤ l.came → l.retries ≡ 0;
}

-- a byte brings the end nearer, and an interruption the end of its row
abbrev pub decreases-loop-came : goal.decreases-loop-came
decreases-loop-came g l = 17 * (l.len - l.came) + (16 - l.retries)
