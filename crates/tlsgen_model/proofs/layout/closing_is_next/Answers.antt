use Rattle.std.proofs.Common.{rules}
use Rattle.tlsgen_model.proofs.Layouts.{closes_later, closes_now, nothing_closes}
use Rattle.tlsgen_model.proofs.layout.closing_is_next.Goals as goal

pub loop-byte-preserved : goal.loop-byte-preserved
loop-byte-preserved c =
    let one = closes_later c.in-Some.byte.now c.in-Some.after.now (search rules) in
    search (rules, one)

pub returns-then-not-blank : goal.returns-then-not-blank
returns-then-not-blank c =
    let one = closes_now c.in-Some.byte.now c.in-Some.after.now (search rules) in
    search (rules, one)

pub returns : goal.returns
returns c =
    let none = nothing_closes c.loop-byte.rest.now (search rules) in
    search (rules, none)
