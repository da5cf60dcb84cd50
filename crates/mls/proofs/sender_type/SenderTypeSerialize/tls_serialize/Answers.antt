use Rattle.tls_codec.specs.OwnMessages.{u8_meets}
use Rattle.tls_codec.proofs.OwnMessages.{value_writes}
use Rattle.mls.specs.SenderType.{sender_type_has, sender_type_known}
use Rattle.mls.proofs.sender_type.SenderTypeSerialize.tls_serialize.Goals as goal

pub returns-clause-writes : goal.returns-clause-writes
returns-clause-writes g c =
    value_writes sender_type_has u8_meets (sender_type_known c.args.self.now) c.code.ensures _ _ _ _
    c.tls_serialize.ensures.writes
