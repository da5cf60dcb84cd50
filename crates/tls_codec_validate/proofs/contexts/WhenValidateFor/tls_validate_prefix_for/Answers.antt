use Rattle.std.proofs.Common.{◌≡◌, true, rules}
use Rattle.std.proofs.lemmas.Bool.{not-false}
use Rattle.std.proofs.lemmas.Result.{err_from_is_err_and}
use Rattle.tls_codec_base.proofs.Presence.{present_begins, present_refused}
use Rattle.tls_codec_validate.proofs.Validating.{leaves, refuses, rejects_unless}
use Rattle.tls_codec_validate.proofs.contexts.WhenValidateFor.tls_validate_prefix_for.Goals as goal

pub returns-in_err-behind-clause-validates : goal.returns-in_err-behind-clause-validates
returns-in_err-behind-clause-validates g c k is =
    let told = c.test_key.ensures k is in
    let there : g.K.Condition.holds k ≡ true = search (rules, not-false) in
    let p = err_from_is_err_and c.from_residual.result c.from_residual.ensures.1 in
    let r = c.in_err-behind.ensures.validates in
    rw (there, p.1, p.2) (rejects_unless r.not_memory (present_refused g.T.Size.format (refuses r)))

pub returns-clause-validates : goal.returns-clause-validates
returns-clause-validates g c k is =
    let told = c.test_key.ensures k is in
    let there : g.K.Condition.holds k ≡ true = search (rules, not-false) in
    rw there (leaves (present_begins g.T.Size.format c.in_ok-behind.ensures.validates.begins))
