use Rattle.tls_codec.proofs.OwnMessages.{tagged_writes}
use Rattle.mls_group.specs.PSKOrigin.{psk_origin_variants_meet}
use Rattle.mls_group.proofs.psk_origin.PSKOriginSerialize.tls_serialize.Goals as goal

pub returns-in-External-clause-writes : goal.returns-in-External-clause-writes
returns-in-External-clause-writes g c = let is = c.in-External.is in rw is
    (tagged_writes _ _ psk_origin_variants_meet _ _ _ _ _ c.tls_serialize.ensures.writes)

pub returns-in-Resumption-clause-writes : goal.returns-in-Resumption-clause-writes
returns-in-Resumption-clause-writes g c = let is = c.in-Resumption.is in rw is
    (tagged_writes _ _ psk_origin_variants_meet _ _ _ _ _ c.tls_serialize-in-Resumption.ensures.writes)
