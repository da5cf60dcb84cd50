use Rattle.std.proofs.Common.{◌<◌}
use Rattle.tls_codec_bench.proofs.timing.calls_a_round.Given as goal

abbrev pub invariant-loop : goal.invariant-loop
invariant-loop g l = 0 < l.calls
