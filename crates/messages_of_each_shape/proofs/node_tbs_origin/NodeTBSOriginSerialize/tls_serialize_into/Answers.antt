use Rattle.tls_codec.specs.OwnMessages.{u8_meets}
use Rattle.tls_codec.proofs.OwnMessages.{alone_appends, tagged_appends}
use Rattle.messages_of_each_shape.specs.NodeTBSOrigin.{node_tbs_origin_variants_meet}
use Rattle.messages_of_each_shape.proofs.node_tbs_origin.NodeTBSOriginSerialize.tls_serialize_into.Goals as goal

pub returns-in-Update-clause-appends : goal.returns-in-Update-clause-appends
returns-in-Update-clause-appends c = let is = c.in-Update.is in rw is
    (tagged_appends _ _ node_tbs_origin_variants_meet _ _ _ _ (alone_appends u8_meets _ _ _ _ c.tls_serialize_into.ensures.appends))

pub returns-in-Commit-clause-appends : goal.returns-in-Commit-clause-appends
returns-in-Commit-clause-appends c = let is = c.in-Commit.is in rw is
    (tagged_appends _ _ node_tbs_origin_variants_meet _ _ _ _ c.tls_serialize_into-in-Commit.ensures.appends)

pub returns-in-External-clause-appends : goal.returns-in-External-clause-appends
returns-in-External-clause-appends c = let is = c.in-External.is in rw is
    (tagged_appends _ _ node_tbs_origin_variants_meet _ _ _ _ c.tls_serialize_into-in-External.ensures.appends)
