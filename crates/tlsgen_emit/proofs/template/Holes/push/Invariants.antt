-- What is added and what is left are the whole.
use Rattle.std.proofs.Common.{◌≡◌, ◌++◌, drop}
use Rattle.std.specs.Prelude.{map, string_bytes, false}
use Rattle.tlsgen_emit.specs.Templates.{by_turns}
use Rattle.tlsgen_emit.proofs.template.Holes.push.Given as goal

abbrev pub invariant-loop-piece : goal.invariant-loop-piece
invariant-loop-piece l =
    string_bytes l.initial.out ++ by_turns l.self.all.items false (map (λ p. p.now) l.piece-items)
    ≡ string_bytes l.out ++ by_turns l.self.all.items l.is_hole (map (λ p. p.now) (drop l.piece-index l.piece-items))
