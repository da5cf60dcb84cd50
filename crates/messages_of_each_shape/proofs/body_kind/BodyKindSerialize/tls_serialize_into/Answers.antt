use Rattle.tls_codec.specs.OwnMessages.{u8_meets}
use Rattle.tls_codec.proofs.OwnMessages.{value_appends}
use Rattle.messages_of_each_shape.specs.BodyKind.{body_kind_has, body_kind_known}
use Rattle.messages_of_each_shape.proofs.body_kind.BodyKindSerialize.tls_serialize_into.Goals as goal

pub returns-clause-appends : goal.returns-clause-appends
returns-clause-appends c =
    value_appends body_kind_has u8_meets (body_kind_known c.args.self.now) c.code.ensures _ _ _
    c.tls_serialize_into.ensures.appends
