use Rattle.std.proofs.Common.{sym}
use Rattle.tls_codec.specs.OwnMessages.{u8_meets, values_meet}
use Rattle.tls_codec.proofs.OwnMessages.{tagged_refuses_unknown, value_begins}
use Rattle.mls_group.specs.ResumptionPSKUsage.{resumption_psk_usage_has, resumption_psk_usage_known}
use Rattle.mls_group.proofs.resumption_psk_usage.ResumptionPSKUsageDeserializeBytes.tls_deserialize_bytes.Goals as goal

pub returns-in-Some-clause-splits : goal.returns-in-Some-clause-splits
returns-in-Some-clause-splits c =
    value_begins resumption_psk_usage_has u8_meets (resumption_psk_usage_known c.in-Some.value)
    (sym c.in-Some.ensures) c.in_ok-tag.ensures.splits

pub returns-in-None-clause-splits : goal.returns-in-None-clause-splits
returns-in-None-clause-splits c =
    let is = c.unknown_value.ensures in
    rw is (tagged_refuses_unknown u8_meets (values_meet resumption_psk_usage_has)
    c.in_ok-tag.ensures.splits c.in-None.ensures)
