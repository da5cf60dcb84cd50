use Rattle.tls_codec.specs.OwnMessages.{u16_meets}
use Rattle.tls_codec.proofs.OwnMessages.{value_writes}
use Rattle.messages_of_each_shape.specs.VersionXfefd.{version_xfefd_has, version_xfefd_known}
use Rattle.messages_of_each_shape.proofs.version_xfefd.VersionXfefdSerialize.tls_serialize.Goals as goal

pub returns-clause-writes : goal.returns-clause-writes
returns-clause-writes g c =
    value_writes version_xfefd_has u16_meets (version_xfefd_known c.args.self.now) c.code.ensures _ _ _ _
    c.tls_serialize.ensures.writes
