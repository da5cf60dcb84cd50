use Rattle.tls_codec.specs.OwnMessages.{u8_meets}
use Rattle.tls_codec.proofs.OwnMessages.{value_writes}
use Rattle.mls_group.specs.ResumptionPSKUsage.{resumption_psk_usage_has, resumption_psk_usage_known}
use Rattle.mls_group.proofs.resumption_psk_usage.ResumptionPSKUsageSerialize.tls_serialize.Goals as goal

pub returns-clause-writes : goal.returns-clause-writes
returns-clause-writes g c =
    value_writes resumption_psk_usage_has u8_meets (resumption_psk_usage_known c.args.self.now) c.code.ensures _ _ _ _
    c.tls_serialize.ensures.writes
