use Rattle.std.proofs.Common.{◌≡◌, ◌++◌, List, take}
use Rattle.std.specs.List.{AllZip}
use Rattle.tlsgen_resolve.specs.Cases.{IsLabelled}
use Rattle.tlsgen_resolve.specs.declared.cases.Labelled.{Labelled}
use Rattle.tlsgen_resolve.proofs.cases.push_labels.Given as goal

-- one more for each label so far
abbrev pub invariant-loop-label : goal.invariant-loop-label
invariant-loop-label l =
    (more : List Labelled) × (l.cases.items ≡ l.fn.cases.items ++ more) ×
    AllZip (IsLabelled l.tag l.case.fields.items) (take l.label-index l.case.labels.items) more
