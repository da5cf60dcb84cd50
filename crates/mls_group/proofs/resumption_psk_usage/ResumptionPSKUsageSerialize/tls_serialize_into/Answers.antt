use Rattle.tls_codec.specs.OwnMessages.{u8_meets}
use Rattle.tls_codec.proofs.OwnMessages.{value_appends}
use Rattle.mls_group.specs.ResumptionPSKUsage.{resumption_psk_usage_has, resumption_psk_usage_known}
use Rattle.mls_group.proofs.resumption_psk_usage.ResumptionPSKUsageSerialize.tls_serialize_into.Goals as goal

pub returns-clause-appends : goal.returns-clause-appends
returns-clause-appends c =
    value_appends resumption_psk_usage_has u8_meets (resumption_psk_usage_known c.args.self.now) c.code.ensures _ _ _
    c.tls_serialize_into.ensures.appends
