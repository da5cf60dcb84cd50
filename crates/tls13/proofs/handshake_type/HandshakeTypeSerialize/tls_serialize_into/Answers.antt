use Rattle.tls_codec.specs.OwnMessages.{u8_meets}
use Rattle.tls_codec.proofs.OwnMessages.{value_appends}
use Rattle.tls13.specs.HandshakeType.{handshake_type_has, handshake_type_known}
use Rattle.tls13.proofs.handshake_type.HandshakeTypeSerialize.tls_serialize_into.Goals as goal

pub returns-clause-appends : goal.returns-clause-appends
returns-clause-appends c =
    value_appends handshake_type_has u8_meets (handshake_type_known c.args.self.now) c.code.ensures _ _ _
    c.tls_serialize_into.ensures.appends
