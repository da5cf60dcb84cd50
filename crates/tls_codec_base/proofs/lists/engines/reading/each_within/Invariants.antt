-- The source gave a content of the elements so far, each of which took a turn.
use Rattle.std.proofs.Common.{◌≡◌, []}
use Rattle.tls_codec_wire.specs.Bounded.{BorrowAlike, inner_of, limit_of}
use Rattle.tls_codec_grammar.specs.Tree.{trees}
use Rattle.tls_codec_base.specs.Turns.{TurnedEach}
use Rattle.tls_codec_base.proofs.ListSources.{GivenSoFar}
use Rattle.tls_codec_base.proofs.lists.engines.reading.each_within.Given as goal

abbrev pub invariant-elements : goal.invariant-elements
invariant-elements g l = record {
  same : BorrowAlike l.fn.within l.within;
  read : GivenSoFar g.R.Source.given (g.K.ElementCoding.format l.coding).spells (inner_of l.fn.within) (inner_of l.within) (limit_of l.fn.within) (limit_of l.within) (trees g.K.ElementCoding.plain l.elements.items);
  turned : TurnedEach l.elements.items l.fn.turns l.turns;
  untouched : limit_of l.fn.within ≡ 0 → (l.elements.items ≡ []) × (inner_of l.within ≡ inner_of l.fn.within) × (l.turns ≡ l.fn.turns);
}

abbrev pub decreases-elements : goal.decreases-elements
decreases-elements g l = limit_of l.within
