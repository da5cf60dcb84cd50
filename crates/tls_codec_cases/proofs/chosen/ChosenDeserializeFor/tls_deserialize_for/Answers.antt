use Rattle.std.proofs.Common.{rules, ◌≡◌, true, false}
use Rattle.std.proofs.lemmas.Bool.{not-false, not-true}
use Rattle.std.proofs.lemmas.Result.{err_from_is_err_and}
use Rattle.tls_codec_base.proofs.Chosen.{chosen_leaves, chosen_named}
use Rattle.tls_codec_cases.proofs.Ambiguous.{refused_leaves, refused_named}
use Rattle.tls_codec_cases.proofs.chosen.ChosenDeserializeFor.tls_deserialize_for.Goals as goal

pub returns-then-not-are_distinct-clause-reads : goal.returns-then-not-are_distinct-clause-reads
returns-then-not-are_distinct-clause-reads g c =
    let told : g.C.Cases.distinct ≡ false = search (rules, not-true) in
    let is = c.unknown_value.ensures in
    rw told (rw is (refused_leaves g.met.R.Source.gives_nothing))

pub returns-then-not-are_distinct-clause-named : goal.returns-then-not-are_distinct-clause-named
returns-then-not-are_distinct-clause-named g c =
    let told : g.C.Cases.distinct ≡ false = search (rules, not-true) in
    let is = c.unknown_value.ensures in
    rw told (rw is (refused_named g.met.R.Source.gives_nothing))

pub returns-in_err-cases-clause-reads : goal.returns-in_err-cases-clause-reads
returns-in_err-cases-clause-reads g c =
    let told : g.C.Cases.distinct ≡ true = search (rules, not-false) in
    let p = err_from_is_err_and c.from_residual.result c.from_residual.ensures.1 in
    let n = g.K.Selector.selected (g.K.Size.plain c.args.context.now) in
    let refused = rw c.selects.ensures at c.in_err-cases.ensures.reads in
    rw told (rw (p.1, p.2) (chosen_leaves g.met.C.Cases.meet n refused))

pub returns-in_err-cases-clause-named : goal.returns-in_err-cases-clause-named
returns-in_err-cases-clause-named g c =
    let told : g.C.Cases.distinct ≡ true = search (rules, not-false) in
    let p = err_from_is_err_and c.from_residual.result c.from_residual.ensures.1 in
    let n = g.K.Selector.selected (g.K.Size.plain c.args.context.now) in
    let named = rw c.selects.ensures at c.in_err-cases.ensures.named in
    rw told (rw (p.1, p.2) (chosen_named g.met.C.Cases.meet n (g.C.ReadCases.source_names n) named))
