use Rattle.tls_codec.specs.OwnMessages.{u8_meets}
use Rattle.tls_codec.proofs.OwnMessages.{value_appends}
use Rattle.tls13.specs.LegacyCompressionMethodX00.{legacy_compression_method_x00_has, legacy_compression_method_x00_known}
use Rattle.tls13.proofs.legacy_compression_method_x00.LegacyCompressionMethodX00Serialize.tls_serialize_into.Goals as goal

pub returns-clause-appends : goal.returns-clause-appends
returns-clause-appends c =
    value_appends legacy_compression_method_x00_has u8_meets (legacy_compression_method_x00_known c.args.self.now) c.code.ensures _ _ _
    c.tls_serialize_into.ensures.appends
