use Rattle.tls_codec.specs.OwnMessages.{u16_meets}
use Rattle.tls_codec.proofs.OwnMessages.{value_appends}
use Rattle.tls13.specs.ProtocolVersionX0303.{protocol_version_x0303_has, protocol_version_x0303_known}
use Rattle.tls13.proofs.protocol_version_x0303.ProtocolVersionX0303Serialize.tls_serialize_into.Goals as goal

pub returns-clause-appends : goal.returns-clause-appends
returns-clause-appends c =
    value_appends protocol_version_x0303_has u16_meets (protocol_version_x0303_known c.args.self.now) c.code.ensures _ _ _
    c.tls_serialize_into.ensures.appends
