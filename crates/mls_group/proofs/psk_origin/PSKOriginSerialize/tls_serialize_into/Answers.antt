use Rattle.tls_codec.proofs.OwnMessages.{tagged_appends}
use Rattle.mls_group.specs.PSKOrigin.{psk_origin_variants_meet}
use Rattle.mls_group.proofs.psk_origin.PSKOriginSerialize.tls_serialize_into.Goals as goal

pub returns-in-External-clause-appends : goal.returns-in-External-clause-appends
returns-in-External-clause-appends c = let is = c.in-External.is in rw is
    (tagged_appends _ _ psk_origin_variants_meet _ _ _ _ c.tls_serialize_into.ensures.appends)

pub returns-in-Resumption-clause-appends : goal.returns-in-Resumption-clause-appends
returns-in-Resumption-clause-appends c = let is = c.in-Resumption.is in rw is
    (tagged_appends _ _ psk_origin_variants_meet _ _ _ _ c.tls_serialize_into-in-Resumption.ensures.appends)
