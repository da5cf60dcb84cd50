use Rattle.tls_codec.specs.OwnMessages.{u16_meets}
use Rattle.tls_codec.proofs.OwnMessages.{value_appends}
use Rattle.messages_of_each_shape.specs.MagicX0102.{magic_x0102_has, magic_x0102_known}
use Rattle.messages_of_each_shape.proofs.magic_x0102.MagicX0102Serialize.tls_serialize_into.Goals as goal

pub returns-clause-appends : goal.returns-clause-appends
returns-clause-appends c =
    value_appends magic_x0102_has u16_meets (magic_x0102_known c.args.self.now) c.code.ensures _ _ _
    c.tls_serialize_into.ensures.appends
