use Rattle.std.proofs.Common.{drop}
use Rattle.tls_codec_grammar.specs.Tree.{trees}
use Rattle.tls_codec_base.proofs.PartsAppending.{AppendedSoFar}
use Rattle.tls_codec_base.proofs.lists.engines.writing.append_each.Given as goal

abbrev pub invariant-loop-element : goal.invariant-loop-element
invariant-loop-element g l = AppendedSoFar (g.K.ElementCoding.format l.coding) (trees g.K.ElementCoding.plain l.elements) (trees g.K.ElementCoding.plain (drop l.element-index l.elements)) l.fn.out.items l.out.items
