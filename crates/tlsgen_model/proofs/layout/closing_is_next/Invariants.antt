-- What closed before closes still.
use Rattle.std.proofs.Common.{◌≡◌, length}
use Rattle.tlsgen_model.specs.Layout.{closes}
use Rattle.tlsgen_model.proofs.layout.closing_is_next.Given as goal

abbrev pub invariant-loop-byte : goal.invariant-loop-byte
invariant-loop-byte l = closes l.text ≡ closes l.rest

abbrev pub decreases-loop-byte : goal.decreases-loop-byte
decreases-loop-byte l = length l.rest
