-- The front of the bytes is a content of the elements so far, each of which took a turn.
use Rattle.std.proofs.Common.{◌≡◌, []}
use Rattle.tls_codec_grammar.specs.Tree.{trees}
use Rattle.tls_codec_base.specs.Turns.{TurnedEach}
use Rattle.tls_codec_base.proofs.ListReading.{ReadSoFar}
use Rattle.tls_codec_base.proofs.lists.engines.reading.split.Given as goal

abbrev pub invariant-loop-left : goal.invariant-loop-left
invariant-loop-left g l = record {
  read : ReadSoFar (g.K.ElementCoding.format l.coding).spells l.bytes l.length l.left (trees g.K.ElementCoding.plain l.elements.items) l.rest;
  turned : TurnedEach l.elements.items l.fn.turns l.turns;
  untouched : l.length ≡ 0 → (l.elements.items ≡ []) × (l.rest ≡ l.bytes) × (l.turns ≡ l.fn.turns);
}

abbrev pub decreases-loop-left : goal.decreases-loop-left
decreases-loop-left g l = l.left
