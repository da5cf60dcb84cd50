use Rattle.std.proofs.Common.{ℕ, ◌<◌, get_or}
use Rattle.tls_codec_vl.proofs.zeroize.clear_each.Given as goal

-- the elements so far are cleared
abbrev pub invariant-loop-element : goal.invariant-loop-element
invariant-loop-element g l =
    (k : ℕ) (d : g.row.T.Denot) → k < l.element-index → g.T.Zeroize.cleared (get_or l.elements k d)
