use Rattle.std.proofs.Common.{rules, ◌≡◌, true}
use Rattle.std.proofs.lemmas.Bool.{not-false}
use Rattle.std.proofs.lemmas.Result.{err_from_is_err_and}
use Rattle.tls_codec_base.proofs.Chosen.{chosen_refused}
use Rattle.tls_codec_cases.proofs.chosen.ChosenDeserializeBytesFor.tls_deserialize_bytes_for.Goals as goal

pub returns-in_err-cases-clause-splits : goal.returns-in_err-cases-clause-splits
returns-in_err-cases-clause-splits g c =
    let told : g.C.Cases.distinct ≡ true = search (rules, not-false) in
    let p = err_from_is_err_and c.from_residual.result c.from_residual.ensures.1 in
    let n = g.K.Selector.selected (g.K.Size.plain c.args.context.now) in
    let refused = rw c.selects.ensures at c.in_err-cases.ensures.splits in
    rw told (rw (p.1, p.2) (chosen_refused g.met.C.Cases.meet n refused))
