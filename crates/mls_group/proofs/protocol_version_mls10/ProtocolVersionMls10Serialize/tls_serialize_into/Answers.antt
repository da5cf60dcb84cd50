use Rattle.tls_codec.specs.OwnMessages.{u16_meets}
use Rattle.tls_codec.proofs.OwnMessages.{value_appends}
use Rattle.mls_group.specs.ProtocolVersionMls10.{protocol_version_mls10_has, protocol_version_mls10_known}
use Rattle.mls_group.proofs.protocol_version_mls10.ProtocolVersionMls10Serialize.tls_serialize_into.Goals as goal

pub returns-clause-appends : goal.returns-clause-appends
returns-clause-appends c =
    value_appends protocol_version_mls10_has u16_meets (protocol_version_mls10_known c.args.self.now) c.code.ensures _ _ _
    c.tls_serialize_into.ensures.appends
