use Rattle.std.proofs.Common.{◌≡◌, true, rules}
use Rattle.std.proofs.lemmas.Bool.{not-false}
use Rattle.std.proofs.lemmas.Result.{err_from_is_err_and}
use Rattle.tls_codec_base.proofs.Chosen.{chosen_begins, chosen_refused}
use Rattle.tls_codec_validate.proofs.Validating.{leaves, refuses, rejects_unless}
use Rattle.tls_codec_validate.proofs.contexts.ChosenValidateFor.tls_validate_prefix_for.Goals as goal

pub returns-in_err-behind-clause-validates : goal.returns-in_err-behind-clause-validates
returns-in_err-behind-clause-validates g c k is =
    let told : g.C.Cases.distinct ≡ true = search (rules, not-false) in
    let p = err_from_is_err_and c.from_residual.result c.from_residual.ensures.1 in
    let r = rw (c.tag_of_key.ensures k is) at c.in_err-behind.ensures.validates in
    rw told (rw (p.1, p.2) (rejects_unless r.not_memory (chosen_refused g.met.C.Cases.meet (g.K.Selector.selected k) (refuses r))))

pub returns-clause-validates : goal.returns-clause-validates
returns-clause-validates g c k is =
    let told : g.C.Cases.distinct ≡ true = search (rules, not-false) in
    let parts = rw (c.tag_of_key.ensures k is) at c.in_ok-behind.ensures.validates in
    rw told (leaves (chosen_begins g.met.C.Cases.meet (g.K.Selector.selected k) parts.begins))
