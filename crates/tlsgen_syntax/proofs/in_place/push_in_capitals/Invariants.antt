use Rattle.std.proofs.Common.{◌≡◌, ◌++◌, List, ℕ, string_bytes, true}
use Rattle.std.specs.Str.{encode_utf8_all}
use Rattle.tlsgen_syntax.specs.Apart.{in_capitals}
use Rattle.tlsgen_syntax.proofs.in_place.push_in_capitals.Given as goal

abbrev pub invariant-loop-c : goal.invariant-loop-c
invariant-loop-c l = (rest : List ℕ) → string_bytes l.out ++ encode_utf8_all (in_capitals l.begins rest) ≡ string_bytes l.fn.out ++ encode_utf8_all (in_capitals true (l.yielded ++ rest))
