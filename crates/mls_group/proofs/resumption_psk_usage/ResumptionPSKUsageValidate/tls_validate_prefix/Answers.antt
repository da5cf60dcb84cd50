use Rattle.std.proofs.Common.{rules, refl, sym}
use Rattle.tls_codec.specs.OwnMessages.{u8_meets, values_meet}
use Rattle.tls_codec.proofs.OwnMessages.{value_begins}
use Rattle.tls_codec_validate.proofs.Tagging.{tag_placed, tag_rejected, unknown_placed, unknown_rejected}
use Rattle.tls_codec_validate.proofs.Validating.{leaves}
use Rattle.mls_group.specs.ResumptionPSKUsage.{resumption_psk_usage_has, resumption_psk_usage_known}
use Rattle.mls_group.proofs.resumption_psk_usage.ResumptionPSKUsageValidate.tls_validate_prefix.Goals as goal

pub returns-in_err-tag-clause-validates : goal.returns-in_err-tag-clause-validates
returns-in_err-tag-clause-validates c =
    tag_rejected u8_meets (values_meet resumption_psk_usage_has) _ _ _ c.from_residual.ensures.1
    c.in_err-tag.ensures.finds

pub returns-in_err-tag-clause-rejected : goal.returns-in_err-tag-clause-rejected
returns-in_err-tag-clause-rejected c =
    tag_placed _ _ _ _ c.from_residual.ensures.1 c.in_err-tag.ensures.rejected

pub returns-in-Some-clause-validates : goal.returns-in-Some-clause-validates
returns-in-Some-clause-validates c =
    leaves (value_begins resumption_psk_usage_has u8_meets (resumption_psk_usage_known c.in-Some._value)
    (sym c.in-Some.ensures) c.in_ok-tag.ensures.finds)

pub returns-in-None-clause-validates : goal.returns-in-None-clause-validates
returns-in-None-clause-validates c =
    let is = c.unknown_value.ensures in
    rw is (unknown_rejected u8_meets (values_meet resumption_psk_usage_has)
    c.in_ok-tag.ensures.finds c.in-None.ensures)

pub returns-in-None-clause-rejected : goal.returns-in-None-clause-rejected
returns-in-None-clause-rejected c =
    let is = c.unknown_value.ensures in
    rw is (unknown_placed _ _ _ c.in_ok-tag.ensures.finds refl
    (c.in-None.ensures, search rules) (refl, c.in-None.ensures, search rules))
