use Rattle.std.proofs.Common.{◌≡◌, ◌++◌, ◌<◌, ◌+◌, [], ◌∷◌, ◌∙◌, rules, ap, get_or, take, length, subst, sym}
use Rattle.std.proofs.lemmas.List.{append_assoc, take_more}
use Rattle.std.proofs.lemmas.Slice.Zip.{all_zipped_more}
use Rattle.std.specs.List.{AllZip}
use Rattle.tlsgen_resolve.specs.Cases.{IsLabelled}
use Rattle.tlsgen_resolve.proofs.cases.push_labels.Goals as goal

pub loop-label-preserved : goal.loop-label-preserved
loop-label-preserved c =
    let R = IsLabelled c.args.tag c.args.case.now.fields.items in
    let labels = c.args.case.now.labels.items in
    let i = c.loop-label.label-index in
    let label = c.label-item.result in
    let more = c.loop-label.invariant.0 in
    let one = c.in_ok-one.one in
    let old = c.args.cases.now.items in
    let pushed : c.push.new.self.items ≡ c.loop-label.cases.items ++ one ∷ [] = search rules in
    let fields : one.fields.now ≡ c.args.case.now.fields.items = search rules in
    let at : get_or labels i label ≡ label = search rules in
    let within : i < length labels = search rules in
    let step : take (i + 1) labels ≡ take i labels ++ label ∷ [] =
    take_more labels i label within ∙ ap (λ l. take i labels ++ l ∷ []) at in (
      more ++ one ∷ [],
      pushed ∙ ap (λ l. l ++ one ∷ []) c.loop-label.invariant.1 ∙ append_assoc old more (one ∷ []),
      subst (λ ls. AllZip R ls (more ++ one ∷ [])) (sym step)
          (all_zipped_more R (take i labels) more label one c.loop-label.invariant.2 (fields, c.in_ok-one.ensures.number)),
    )
