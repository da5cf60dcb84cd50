use Rattle.tls_codec.specs.OwnMessages.{u8_meets}
use Rattle.tls_codec.proofs.OwnMessages.{value_writes}
use Rattle.messages_of_each_shape.specs.NameTypeHostName.{name_type_host_name_has, name_type_host_name_known}
use Rattle.messages_of_each_shape.proofs.name_type_host_name.NameTypeHostNameSerialize.tls_serialize.Goals as goal

pub returns-clause-writes : goal.returns-clause-writes
returns-clause-writes g c =
    value_writes name_type_host_name_has u8_meets (name_type_host_name_known c.args.self.now) c.code.ensures _ _ _ _
    c.tls_serialize.ensures.writes
