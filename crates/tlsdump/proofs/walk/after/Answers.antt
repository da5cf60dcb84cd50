use Rattle.std.proofs.Common.{◌≡◌, ◌++◌, ◌∙◌, sym, ap}
use Rattle.std.proofs.lemmas.List.{take-append-drop}
use Rattle.std.specs.Cmp.Lexicographic.{same_text}
use Rattle.tlsdump.proofs.walk.after.Goals as goal

pub returns-in-Some : goal.returns-in-Some
returns-in-Some c =
    let front = same_text c.in-Some.first.now c.args.front.now c.if-eq.ensures in
    let cases = c.in-Some.ensures.cases in
    let parts : c.in-Some.first.now ++ c.in-Some.rest.now ≡ c.args.bytes.now =
    rw (cases.1, cases.2) (take-append-drop _ _) in
    sym parts ∙ ap (λ xs. xs ++ c.in-Some.rest.now) front
