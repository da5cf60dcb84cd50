use Rattle.tls_codec.specs.OwnMessages.{u16_meets}
use Rattle.tls_codec.proofs.OwnMessages.{value_writes}
use Rattle.messages_of_each_shape.specs.Level.{level_has, level_known}
use Rattle.messages_of_each_shape.proofs.level.LevelSerialize.tls_serialize.Goals as goal

pub returns-clause-writes : goal.returns-clause-writes
returns-clause-writes g c =
    value_writes level_has u16_meets (level_known c.args.self.now) c.code.ensures _ _ _ _
    c.tls_serialize.ensures.writes
