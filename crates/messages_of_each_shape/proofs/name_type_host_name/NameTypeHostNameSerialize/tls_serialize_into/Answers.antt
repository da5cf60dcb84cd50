use Rattle.tls_codec.specs.OwnMessages.{u8_meets}
use Rattle.tls_codec.proofs.OwnMessages.{value_appends}
use Rattle.messages_of_each_shape.specs.NameTypeHostName.{name_type_host_name_has, name_type_host_name_known}
use Rattle.messages_of_each_shape.proofs.name_type_host_name.NameTypeHostNameSerialize.tls_serialize_into.Goals as goal

pub returns-clause-appends : goal.returns-clause-appends
returns-clause-appends c =
    value_appends name_type_host_name_has u8_meets (name_type_host_name_known c.args.self.now) c.code.ensures _ _ _
    c.tls_serialize_into.ensures.appends
