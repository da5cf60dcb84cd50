-- The texts are alike where what is left of them is.
use Rattle.std.proofs.Common.{◌≡◌, ◌↔◌, length}
use Rattle.tlsgen_model.specs.Layout.{significant}
use Rattle.tlsgen_model.proofs.layout.first_difference.Given as goal

abbrev pub invariant-loop-byte : goal.invariant-loop-byte
invariant-loop-byte l = (significant l.ours ≡ significant l.theirs) ↔ (significant l.mine ≡ significant l.other)

abbrev pub decreases-loop-byte : goal.decreases-loop-byte
decreases-loop-byte l = length l.mine
