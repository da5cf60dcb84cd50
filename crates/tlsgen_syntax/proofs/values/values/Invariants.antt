use Rattle.std.proofs.Common.{◌≡◌, List, length}
use Rattle.tlsgen_syntax.specs.declared.token.Mark.TheVariants.{Comma}
use Rattle.tlsgen_syntax.specs.Apart.{apart_value_then}
use Rattle.tlsgen_syntax.specs.Signs.{Sign, separated_then, value_then}
use Rattle.tlsgen_syntax.proofs.values.values.Given as goal

abbrev pub invariant-loop-one : goal.invariant-loop-one
invariant-loop-one l = record {
  count : length l.values.items ≡ length l.yielded;
  same : (rest : List Sign) → separated_then Comma value_then l.values.items rest ≡ separated_then Comma apart_value_then l.yielded rest;
}
