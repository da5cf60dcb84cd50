use Rattle.tls_codec.specs.OwnMessages.{u8_meets}
use Rattle.tls_codec.proofs.OwnMessages.{value_appends}
use Rattle.messages_of_each_shape.specs.ClientOrServerExtension.{client_or_server_extension_has, client_or_server_extension_known}
use Rattle.messages_of_each_shape.proofs.client_or_server_extension.ClientOrServerExtensionSerialize.tls_serialize_into.Goals as goal

pub returns-clause-appends : goal.returns-clause-appends
returns-clause-appends c =
    value_appends client_or_server_extension_has u8_meets (client_or_server_extension_known c.args.self.now) c.code.ensures _ _ _
    c.tls_serialize_into.ensures.appends
