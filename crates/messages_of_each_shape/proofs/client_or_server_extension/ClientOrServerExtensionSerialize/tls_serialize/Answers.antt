use Rattle.tls_codec.specs.OwnMessages.{u8_meets}
use Rattle.tls_codec.proofs.OwnMessages.{value_writes}
use Rattle.messages_of_each_shape.specs.ClientOrServerExtension.{client_or_server_extension_has, client_or_server_extension_known}
use Rattle.messages_of_each_shape.proofs.client_or_server_extension.ClientOrServerExtensionSerialize.tls_serialize.Goals as goal

pub returns-clause-writes : goal.returns-clause-writes
returns-clause-writes g c =
    value_writes client_or_server_extension_has u8_meets (client_or_server_extension_known c.args.self.now) c.code.ensures _ _ _ _
    c.tls_serialize.ensures.writes
