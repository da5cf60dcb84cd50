use Rattle.std.proofs.Common.{drop}
use Rattle.tls_codec_grammar.specs.Tree.{trees}
use Rattle.tls_codec_base.proofs.ListWriting.{SentSoFar}
use Rattle.tls_codec_base.proofs.lists.engines.writing.write_each.Given as goal

abbrev pub invariant-loop-element : goal.invariant-loop-element
invariant-loop-element g l = SentSoFar (g.K.ElementCoding.format l.coding) g.W.Sink (trees g.K.ElementCoding.plain l.elements) (trees g.K.ElementCoding.plain (drop l.element-index l.elements)) l.initial.sink l.sink l.sent
