use Rattle.tls_codec.specs.OwnMessages.{u8_meets}
use Rattle.tls_codec.proofs.OwnMessages.{value_writes}
use Rattle.ct.specs.Version.{version_has, version_known}
use Rattle.ct.proofs.version.VersionSerialize.tls_serialize.Goals as goal

pub returns-clause-writes : goal.returns-clause-writes
returns-clause-writes g c =
    value_writes version_has u8_meets (version_known c.args.self.now) c.code.ensures _ _ _ _
    c.tls_serialize.ensures.writes
