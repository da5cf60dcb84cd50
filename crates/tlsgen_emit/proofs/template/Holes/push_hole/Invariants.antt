use Rattle.std.proofs.Common.{◌≡◌, drop}
use Rattle.std.specs.Prelude.{string_bytes}
use Rattle.tlsgen_emit.specs.Templates.{text_of}
use Rattle.tlsgen_emit.proofs.template.Holes.push_hole.Given as goal

abbrev pub invariant-loop-hole : goal.invariant-loop-hole
invariant-loop-hole l =
    (string_bytes l.out ≡ string_bytes l.initial.out)
    × (text_of l.self.all.items l.word ≡ text_of (drop l.hole-index l.self.all.items) l.word)
