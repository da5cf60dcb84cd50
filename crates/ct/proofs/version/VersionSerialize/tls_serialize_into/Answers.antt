use Rattle.tls_codec.specs.OwnMessages.{u8_meets}
use Rattle.tls_codec.proofs.OwnMessages.{value_appends}
use Rattle.ct.specs.Version.{version_has, version_known}
use Rattle.ct.proofs.version.VersionSerialize.tls_serialize_into.Goals as goal

pub returns-clause-appends : goal.returns-clause-appends
returns-clause-appends c =
    value_appends version_has u8_meets (version_known c.args.self.now) c.code.ensures _ _ _
    c.tls_serialize_into.ensures.appends
