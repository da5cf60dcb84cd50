use Rattle.std.proofs.Common.{◌≡◌}
use Rattle.tls_codec_vec.proofs.collecting.collected.Given as goal

-- the elements so far are those that were given
abbrev pub invariant-loop-element : goal.invariant-loop-element
invariant-loop-element g l = l.vec.items ≡ l.yielded
