-- Only layout was passed.
use Rattle.std.proofs.Common.{◌≡◌, ◌≤◌, length}
use Rattle.tlsgen_model.specs.Layout.{significant}
use Rattle.tlsgen_model.proofs.layout.next_byte.Given as goal

abbrev pub invariant-loop-byte : goal.invariant-loop-byte
invariant-loop-byte l = record {
  same : significant l.text ≡ significant l.rest;
  within : length l.rest ≤ length l.text;
}

abbrev pub decreases-loop-byte : goal.decreases-loop-byte
decreases-loop-byte l = length l.rest
