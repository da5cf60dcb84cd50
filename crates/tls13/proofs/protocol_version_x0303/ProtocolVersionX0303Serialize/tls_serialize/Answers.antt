use Rattle.tls_codec.specs.OwnMessages.{u16_meets}
use Rattle.tls_codec.proofs.OwnMessages.{value_writes}
use Rattle.tls13.specs.ProtocolVersionX0303.{protocol_version_x0303_has, protocol_version_x0303_known}
use Rattle.tls13.proofs.protocol_version_x0303.ProtocolVersionX0303Serialize.tls_serialize.Goals as goal

pub returns-clause-writes : goal.returns-clause-writes
returns-clause-writes g c =
    value_writes protocol_version_x0303_has u16_meets (protocol_version_x0303_known c.args.self.now) c.code.ensures _ _ _ _
    c.tls_serialize.ensures.writes
