use Rattle.tls_codec.specs.OwnMessages.{u8_meets}
use Rattle.tls_codec.proofs.OwnMessages.{value_appends}
use Rattle.tls13.specs.ContentTypeApplicationData.{content_type_application_data_has, content_type_application_data_known}
use Rattle.tls13.proofs.content_type_application_data.ContentTypeApplicationDataSerialize.tls_serialize_into.Goals as goal

pub returns-clause-appends : goal.returns-clause-appends
returns-clause-appends c =
    value_appends content_type_application_data_has u8_meets (content_type_application_data_known c.args.self.now) c.code.ensures _ _ _
    c.tls_serialize_into.ensures.appends
