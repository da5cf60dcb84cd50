use Rattle.tls_codec.specs.OwnMessages.{u8_meets}
use Rattle.tls_codec.proofs.OwnMessages.{value_writes}
use Rattle.tls13.specs.CertificateType.{certificate_type_has, certificate_type_known}
use Rattle.tls13.proofs.certificate_type.CertificateTypeSerialize.tls_serialize.Goals as goal

pub returns-clause-writes : goal.returns-clause-writes
returns-clause-writes g c =
    value_writes certificate_type_has u8_meets (certificate_type_known c.args.self.now) c.code.ensures _ _ _ _
    c.tls_serialize.ensures.writes
