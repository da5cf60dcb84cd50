use Rattle.tls_codec.specs.OwnMessages.{u8_meets}
use Rattle.tls_codec.proofs.OwnMessages.{value_writes}
use Rattle.tls13.specs.ContentTypeApplicationData.{content_type_application_data_has, content_type_application_data_known}
use Rattle.tls13.proofs.content_type_application_data.ContentTypeApplicationDataSerialize.tls_serialize.Goals as goal

pub returns-clause-writes : goal.returns-clause-writes
returns-clause-writes g c =
    value_writes content_type_application_data_has u8_meets (content_type_application_data_known c.args.self.now) c.code.ensures _ _ _ _
    c.tls_serialize.ensures.writes
