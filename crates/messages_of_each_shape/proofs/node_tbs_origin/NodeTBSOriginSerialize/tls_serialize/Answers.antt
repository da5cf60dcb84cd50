use Rattle.tls_codec.specs.OwnMessages.{u8_meets}
use Rattle.tls_codec.proofs.OwnMessages.{alone_writes, tagged_writes}
use Rattle.messages_of_each_shape.specs.NodeTBSOrigin.{node_tbs_origin_variants_meet}
use Rattle.messages_of_each_shape.proofs.node_tbs_origin.NodeTBSOriginSerialize.tls_serialize.Goals as goal

pub returns-in-Update-clause-writes : goal.returns-in-Update-clause-writes
returns-in-Update-clause-writes g c = let is = c.in-Update.is in rw is
    (tagged_writes _ _ node_tbs_origin_variants_meet _ _ _ _ _ (alone_writes u8_meets _ _ _ _ _ c.tls_serialize.ensures.writes))

pub returns-in-Commit-clause-writes : goal.returns-in-Commit-clause-writes
returns-in-Commit-clause-writes g c = let is = c.in-Commit.is in rw is
    (tagged_writes _ _ node_tbs_origin_variants_meet _ _ _ _ _ c.tls_serialize-in-Commit.ensures.writes)

pub returns-in-External-clause-writes : goal.returns-in-External-clause-writes
returns-in-External-clause-writes g c = let is = c.in-External.is in rw is
    (tagged_writes _ _ node_tbs_origin_variants_meet _ _ _ _ _ c.tls_serialize-in-External.ensures.writes)
