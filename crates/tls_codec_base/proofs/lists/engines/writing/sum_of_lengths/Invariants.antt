use Rattle.std.proofs.Common.{◌≡◌, ◌+◌, ◌<◌, ◌^◌, drop}
use Rattle.tls_codec_grammar.specs.Tree.{trees}
use Rattle.tls_codec_grammar.specs.Announced.{content_sum}
use Rattle.tls_codec_base.proofs.lists.engines.writing.sum_of_lengths.Given as goal

-- the sum so far and that of what is left are the sum of all
abbrev pub invariant-loop-element : goal.invariant-loop-element
invariant-loop-element g l = record {
  total : l.sum + content_sum (g.K.ElementCoding.format l.coding).announced (trees g.K.ElementCoding.plain (drop l.element-index l.elements)) ≡ content_sum (g.K.ElementCoding.format l.coding).announced (trees g.K.ElementCoding.plain l.elements);
  fits : l.sum < 2 ^ 64;
}
