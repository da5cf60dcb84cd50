use Rattle.tls_codec.proofs.OwnMessages.{tagged_writes}
use Rattle.mls_tree.specs.LeafNodeTBSOrigin.{leaf_node_tbs_origin_variants_meet}
use Rattle.mls_tree.proofs.leaf_node_tbs_origin.LeafNodeTBSOriginSerialize.tls_serialize.Goals as goal

pub returns-in-KeyPackage-clause-writes : goal.returns-in-KeyPackage-clause-writes
returns-in-KeyPackage-clause-writes g c = let is = c.in-KeyPackage.is in rw is
    (tagged_writes _ _ leaf_node_tbs_origin_variants_meet _ _ _ _ _ c.tls_serialize.ensures.writes)

pub returns-in-Update-clause-writes : goal.returns-in-Update-clause-writes
returns-in-Update-clause-writes g c = let is = c.in-Update.is in rw is
    (tagged_writes _ _ leaf_node_tbs_origin_variants_meet _ _ _ _ _ c.tls_serialize-in-Update.ensures.writes)

pub returns-in-Commit-clause-writes : goal.returns-in-Commit-clause-writes
returns-in-Commit-clause-writes g c = let is = c.in-Commit.is in rw is
    (tagged_writes _ _ leaf_node_tbs_origin_variants_meet _ _ _ _ _ c.tls_serialize-in-Commit.ensures.writes)
