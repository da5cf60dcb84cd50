use Rattle.std.proofs.Common.{sym}
use Rattle.tls_codec.specs.OwnMessages.{u16_meets, values_meet}
use Rattle.tls_codec.proofs.OwnMessages.{tagged_refuses_unknown, value_begins}
use Rattle.mls_group.specs.ProtocolVersionMls10.{protocol_version_mls10_has, protocol_version_mls10_known}
use Rattle.mls_group.proofs.protocol_version_mls10.ProtocolVersionMls10DeserializeBytes.tls_deserialize_bytes.Goals as goal

pub returns-in-Some-clause-splits : goal.returns-in-Some-clause-splits
returns-in-Some-clause-splits c =
    value_begins protocol_version_mls10_has u16_meets (protocol_version_mls10_known c.in-Some.value)
    (sym c.in-Some.ensures) c.in_ok-tag.ensures.splits

pub returns-in-None-clause-splits : goal.returns-in-None-clause-splits
returns-in-None-clause-splits c =
    let is = c.unknown_value.ensures in
    rw is (tagged_refuses_unknown u16_meets (values_meet protocol_version_mls10_has)
    c.in_ok-tag.ensures.splits c.in-None.ensures)
