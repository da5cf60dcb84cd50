use Rattle.std.proofs.Common.{◌≡◌, List}
use Rattle.tlsgen_syntax.specs.Apart.{before_then, sent_part_then}
use Rattle.tlsgen_syntax.specs.Signs.{Sign, each_then, item_then, part_then}
use Rattle.tlsgen_syntax.proofs.signed.push_struct.Given as goal

abbrev pub invariant-loop-part : goal.invariant-loop-part
invariant-loop-part l = record {
  sent : (rest : List Sign) → each_then part_then l.sent.items rest ≡ each_then (sent_part_then l.name) l.yielded rest;
  before : (rest : List Sign) → each_then item_then l.items.items rest ≡ each_then item_then l.fn.items.items (each_then (before_then l.name) l.yielded rest);
}
