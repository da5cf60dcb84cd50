use Rattle.tls_codec.specs.OwnMessages.{u8_meets}
use Rattle.tls_codec.proofs.OwnMessages.{value_writes}
use Rattle.tls13.specs.LegacyCompressionMethodX00.{legacy_compression_method_x00_has, legacy_compression_method_x00_known}
use Rattle.tls13.proofs.legacy_compression_method_x00.LegacyCompressionMethodX00Serialize.tls_serialize.Goals as goal

pub returns-clause-writes : goal.returns-clause-writes
returns-clause-writes g c =
    value_writes legacy_compression_method_x00_has u8_meets (legacy_compression_method_x00_known c.args.self.now) c.code.ensures _ _ _ _
    c.tls_serialize.ensures.writes
