use Rattle.tls_codec.specs.OwnMessages.{u16_meets}
use Rattle.tls_codec.proofs.OwnMessages.{alone_writes, tagged_writes}
use Rattle.messages_of_each_shape.specs.Identity.{identity_variants_meet}
use Rattle.messages_of_each_shape.proofs.identity.IdentitySerialize.tls_serialize.Goals as goal

pub returns-in-Full-clause-writes : goal.returns-in-Full-clause-writes
returns-in-Full-clause-writes g c = let is = c.in-Full.is in rw is (tagged_writes _ _ identity_variants_meet _ _ _ _ _
    c.tls_serialize.ensures.writes)

pub returns-in-Anonymous-clause-writes : goal.returns-in-Anonymous-clause-writes
returns-in-Anonymous-clause-writes g c = let is = c.in-Anonymous.is in rw is
    (tagged_writes _ _ identity_variants_meet _ _ _ _ _ (alone_writes u16_meets _ _ _ _ _ c.tls_serialize-in-Anonymous.ensures.writes))
