use Rattle.tls_codec.specs.OwnMessages.{u8_meets}
use Rattle.tls_codec.proofs.OwnMessages.{value_writes}
use Rattle.tls13.specs.HandshakeType.{handshake_type_has, handshake_type_known}
use Rattle.tls13.proofs.handshake_type.HandshakeTypeSerialize.tls_serialize.Goals as goal

pub returns-clause-writes : goal.returns-clause-writes
returns-clause-writes g c =
    value_writes handshake_type_has u8_meets (handshake_type_known c.args.self.now) c.code.ensures _ _ _ _
    c.tls_serialize.ensures.writes
