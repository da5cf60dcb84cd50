use Rattle.tls_codec.specs.OwnMessages.{u16_meets}
use Rattle.tls_codec.proofs.OwnMessages.{value_writes}
use Rattle.messages_of_each_shape.specs.MagicX0102.{magic_x0102_has, magic_x0102_known}
use Rattle.messages_of_each_shape.proofs.magic_x0102.MagicX0102Serialize.tls_serialize.Goals as goal

pub returns-clause-writes : goal.returns-clause-writes
returns-clause-writes g c =
    value_writes magic_x0102_has u16_meets (magic_x0102_known c.args.self.now) c.code.ensures _ _ _ _
    c.tls_serialize.ensures.writes
