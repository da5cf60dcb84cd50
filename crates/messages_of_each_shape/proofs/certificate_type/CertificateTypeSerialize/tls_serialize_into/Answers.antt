use Rattle.tls_codec.specs.OwnMessages.{u8_meets}
use Rattle.tls_codec.proofs.OwnMessages.{value_appends}
use Rattle.messages_of_each_shape.specs.CertificateType.{certificate_type_has, certificate_type_known}
use Rattle.messages_of_each_shape.proofs.certificate_type.CertificateTypeSerialize.tls_serialize_into.Goals as goal

pub returns-clause-appends : goal.returns-clause-appends
returns-clause-appends c =
    value_appends certificate_type_has u8_meets (certificate_type_known c.args.self.now) c.code.ensures _ _ _
    c.tls_serialize_into.ensures.appends
