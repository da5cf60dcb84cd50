use Rattle.tls_codec.specs.OwnMessages.{u8_meets}
use Rattle.tls_codec.proofs.OwnMessages.{value_appends}
use Rattle.ct.specs.SignatureTypeCertificateTimestamp.{signature_type_certificate_timestamp_has, signature_type_certificate_timestamp_known}
use Rattle.ct.proofs.signature_type_certificate_timestamp.SignatureTypeCertificateTimestampSerialize.tls_serialize_into.Goals as goal

pub returns-clause-appends : goal.returns-clause-appends
returns-clause-appends c =
    value_appends signature_type_certificate_timestamp_has u8_meets (signature_type_certificate_timestamp_known c.args.self.now)
    c.code.ensures _ _ _
    c.tls_serialize_into.ensures.appends
