-- In each context that has the key the front of the bytes is a content of elements.
use Rattle.tls_codec_grammar.specs.Tree.{Tree}
use Rattle.tls_codec_validate.proofs.Skipping.{SkippedSoFar}
use Rattle.tls_codec_validate.proofs.elements.skip_elements.Given as goal

abbrev pub invariant-loop-left : goal.invariant-loop-left
invariant-loop-left g l = (k : Tree) → g.X.Keyed.is_key l.key k → SkippedSoFar (g.T.SizeFor.format_for k).spells l.bytes l.length l.left l.rest

abbrev pub decreases-loop-left : goal.decreases-loop-left
decreases-loop-left g l = l.left
