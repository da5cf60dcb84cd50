use Rattle.tls_codec.specs.OwnMessages.{u16_meets}
use Rattle.tls_codec.proofs.OwnMessages.{value_appends}
use Rattle.messages_of_each_shape.specs.Level.{level_has, level_known}
use Rattle.messages_of_each_shape.proofs.level.LevelSerialize.tls_serialize_into.Goals as goal

pub returns-clause-appends : goal.returns-clause-appends
returns-clause-appends c =
    value_appends level_has u16_meets (level_known c.args.self.now) c.code.ensures _ _ _
    c.tls_serialize_into.ensures.appends
