use Rattle.std.proofs.Common.{rules}
use Rattle.tlsgen_model.proofs.Layouts.{counts, nothing_counts, passes}
use Rattle.tlsgen_model.proofs.layout.next_byte.Goals as goal

pub returns-then-not-is_layout_before-clause-next : goal.returns-then-not-is_layout_before-clause-next
returns-then-not-is_layout_before-clause-next c =
    let one = counts c.in-Some.byte.now c.in-Some.after.now (search rules) in
    search (rules, one)

pub loop-byte-preserved : goal.loop-byte-preserved
loop-byte-preserved c =
    let one = passes c.in-Some.byte.now c.in-Some.after.now (search rules) in
    record {
      same = search (rules, one);
      within = search rules;
    }

pub returns-clause-next : goal.returns-clause-next
returns-clause-next c =
    let none = nothing_counts c.loop-byte.rest.now (search rules) in
    search (rules, none)
