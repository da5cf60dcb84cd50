use Rattle.std.proofs.Common.{◌≡◌, List}
use Rattle.tlsgen_syntax.specs.Apart.{apart_then}
use Rattle.tlsgen_syntax.specs.Signs.{Sign, each_then, item_then}
use Rattle.tlsgen_syntax.proofs.signed.set_apart.Given as goal

abbrev pub invariant-loop-definition : goal.invariant-loop-definition
invariant-loop-definition l = (rest : List Sign) → each_then item_then l.items.items rest ≡ each_then apart_then l.yielded rest
