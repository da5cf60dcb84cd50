use Rattle.tls_codec.specs.OwnMessages.{u16_meets}
use Rattle.tls_codec.proofs.OwnMessages.{alone_appends, tagged_appends}
use Rattle.messages_of_each_shape.specs.Identity.{identity_variants_meet}
use Rattle.messages_of_each_shape.proofs.identity.IdentitySerialize.tls_serialize_into.Goals as goal

pub returns-in-Full-clause-appends : goal.returns-in-Full-clause-appends
returns-in-Full-clause-appends c = let is = c.in-Full.is in rw is (tagged_appends _ _ identity_variants_meet _ _ _ _
    c.tls_serialize_into.ensures.appends)

pub returns-in-Anonymous-clause-appends : goal.returns-in-Anonymous-clause-appends
returns-in-Anonymous-clause-appends c = let is = c.in-Anonymous.is in rw is
    (tagged_appends _ _ identity_variants_meet _ _ _ _ (alone_appends u16_meets _ _ _ _ c.tls_serialize_into-in-Anonymous.ensures.appends))
