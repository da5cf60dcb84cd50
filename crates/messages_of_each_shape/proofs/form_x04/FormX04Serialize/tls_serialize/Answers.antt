use Rattle.tls_codec.specs.OwnMessages.{u8_meets}
use Rattle.tls_codec.proofs.OwnMessages.{value_writes}
use Rattle.messages_of_each_shape.specs.FormX04.{form_x04_has, form_x04_known}
use Rattle.messages_of_each_shape.proofs.form_x04.FormX04Serialize.tls_serialize.Goals as goal

pub returns-clause-writes : goal.returns-clause-writes
returns-clause-writes g c =
    value_writes form_x04_has u8_meets (form_x04_known c.args.self.now) c.code.ensures _ _ _ _
    c.tls_serialize.ensures.writes
