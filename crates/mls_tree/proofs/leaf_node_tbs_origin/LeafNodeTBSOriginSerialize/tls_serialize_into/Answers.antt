use Rattle.tls_codec.proofs.OwnMessages.{tagged_appends}
use Rattle.mls_tree.specs.LeafNodeTBSOrigin.{leaf_node_tbs_origin_variants_meet}
use Rattle.mls_tree.proofs.leaf_node_tbs_origin.LeafNodeTBSOriginSerialize.tls_serialize_into.Goals as goal

pub returns-in-KeyPackage-clause-appends : goal.returns-in-KeyPackage-clause-appends
returns-in-KeyPackage-clause-appends c = let is = c.in-KeyPackage.is in rw is
    (tagged_appends _ _ leaf_node_tbs_origin_variants_meet _ _ _ _ c.tls_serialize_into.ensures.appends)

pub returns-in-Update-clause-appends : goal.returns-in-Update-clause-appends
returns-in-Update-clause-appends c = let is = c.in-Update.is in rw is
    (tagged_appends _ _ leaf_node_tbs_origin_variants_meet _ _ _ _ c.tls_serialize_into-in-Update.ensures.appends)

pub returns-in-Commit-clause-appends : goal.returns-in-Commit-clause-appends
returns-in-Commit-clause-appends c = let is = c.in-Commit.is in rw is
    (tagged_appends _ _ leaf_node_tbs_origin_variants_meet _ _ _ _ c.tls_serialize_into-in-Commit.ensures.appends)
