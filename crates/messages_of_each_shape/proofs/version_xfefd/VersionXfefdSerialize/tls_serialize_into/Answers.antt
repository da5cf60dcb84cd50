use Rattle.tls_codec.specs.OwnMessages.{u16_meets}
use Rattle.tls_codec.proofs.OwnMessages.{value_appends}
use Rattle.messages_of_each_shape.specs.VersionXfefd.{version_xfefd_has, version_xfefd_known}
use Rattle.messages_of_each_shape.proofs.version_xfefd.VersionXfefdSerialize.tls_serialize_into.Goals as goal

pub returns-clause-appends : goal.returns-clause-appends
returns-clause-appends c =
    value_appends version_xfefd_has u16_meets (version_xfefd_known c.args.self.now) c.code.ensures _ _ _
    c.tls_serialize_into.ensures.appends
