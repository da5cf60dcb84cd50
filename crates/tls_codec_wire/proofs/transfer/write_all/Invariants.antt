-- The sink has what comes before the place, and a row of interruptions was counted.
use Rattle.std.proofs.Common.{length, take, ◌-◌, ◌≡◌, ◌+◌, ◌*◌, ◌≤◌}
use Rattle.std.specs.Io.KnownBytes.{Appends}
use Rattle.tls_codec_wire.specs.Counts.{OnlyInterrupted, RoseBy}
use Rattle.tls_codec_wire.proofs.transfer.write_all.Given as goal

abbrev pub invariant-loop-at : goal.invariant-loop-at
invariant-loop-at g l = record {
  within : l.at ≤ length l.bytes;
  retries : l.retries ≤ 16;
  took : Appends (g.W.Sink.received l.fn.sink) (g.W.Sink.received l.sink) (take l.at l.bytes);
  retried : OnlyInterrupted (g.W.Sink.counts l.fn.sink) (g.W.Sink.counts l.sink);
  counted : RoseBy l.retries (g.W.Sink.counts l.fn.sink).interruptions (g.W.Sink.counts l.sink).interruptions;
  tried : (g.W.Sink.counts l.sink).interruptions ≤ (g.W.Sink.counts l.fn.sink).interruptions + (16 * l.at + l.retries);
  moved : length l.bytes ≤ l.at → l.retries ≡ 0;
  untouched : length l.bytes ≡ 0 → l.sink ≡ l.fn.sink;
}

-- a byte brings the end nearer, and an interruption the end of its row
abbrev pub decreases-loop-at : goal.decreases-loop-at
decreases-loop-at g l = 17 * (length l.bytes - l.at) + (16 - l.retries)
