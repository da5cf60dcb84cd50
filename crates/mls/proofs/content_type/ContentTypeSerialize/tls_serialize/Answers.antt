use Rattle.tls_codec.specs.OwnMessages.{u8_meets}
use Rattle.tls_codec.proofs.OwnMessages.{value_writes}
use Rattle.mls.specs.ContentType.{content_type_has, content_type_known}
use Rattle.mls.proofs.content_type.ContentTypeSerialize.tls_serialize.Goals as goal

pub returns-clause-writes : goal.returns-clause-writes
returns-clause-writes g c =
    value_writes content_type_has u8_meets (content_type_known c.args.self.now) c.code.ensures _ _ _ _
    c.tls_serialize.ensures.writes
