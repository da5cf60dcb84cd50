use Rattle.std.proofs.Common.{rules, ◌≢◌, ◌∷◌, [], arith, refl, true}
use Rattle.std.proofs.lemmas.Result.{err_from_is_err_and}
use Rattle.tls_codec_base.proofs.OptionDecoding.{option_begins, option_refuses}
use Rattle.tls_codec_validate.proofs.Placing.{rejected_end, rejected_payload, rejected_tag}
use Rattle.tls_codec_validate.proofs.Validating.{leaves, refuses, rejects}
use Rattle.tls_codec_validate.proofs.options.OptionValidate.tls_validate_prefix.Goals as goal

pub returns-in_default-clause-rejected : goal.returns-in_default-clause-rejected
returns-in_default-clause-rejected g c = rejected_end refl c.in_default.ensures.cases refl

pub returns-in_err-behind-in-1-clause-validates : goal.returns-in_err-behind-in-1-clause-validates
returns-in_err-behind-in-1-clause-validates g c =
    let p = err_from_is_err_and c.from_residual.result c.from_residual.ensures.1 in
    rw (p.1, p.2) (rejects (option_refuses _ true _ _ _ _ c.in-Some.ensures.cases.0 c.in-1.is (refuses c.in_err-behind-in-1.ensures.validates)))

pub returns-in_err-behind-in-1-clause-rejected : goal.returns-in_err-behind-in-1-clause-rejected
returns-in_err-behind-in-1-clause-rejected g c =
    let p = err_from_is_err_and c.from_residual.result c.from_residual.ensures.1 in
    let one = c.in-1.is in
    rw (p.1, p.2) (rejected_payload (rw one at c.in-Some.ensures.cases.0) c.in_err-behind-in-1.ensures.rejected)

pub returns-in_ok-behind-in-1-clause-validates : goal.returns-in_ok-behind-in-1-clause-validates
returns-in_ok-behind-in-1-clause-validates g c =
    leaves (option_begins _ _ _ _ _ _ c.in-Some.ensures.cases.0 c.in-1.is c.in_ok-behind-in-1.ensures.validates.begins)

pub returns-in_default-tag-clause-rejected : goal.returns-in_default-tag-clause-rejected
returns-in_default-tag-clause-rejected g c =
    let zero : c.in-Some.tag.now ≢ 0 = search rules in
    let one : c.in-Some.tag.now ≢ 1 = search rules in
    rejected_tag refl (record { front = c.in-Some.tag.now ∷ []; rest = _; whole = c.in-Some.ensures.cases.0; is_front = (c.in-Some.tag.now, refl, omega (arith, zero, one)); named = refl })
