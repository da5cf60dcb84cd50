use Rattle.tls_codec.proofs.OwnMessages.{tagged_appends}
use Rattle.mls_tree.specs.Node.{node_variants_meet}
use Rattle.mls_tree.proofs.node.NodeSerialize.tls_serialize_into.Goals as goal

pub returns-in-Leaf-clause-appends : goal.returns-in-Leaf-clause-appends
returns-in-Leaf-clause-appends c = let is = c.in-Leaf.is in rw is (tagged_appends _ _ node_variants_meet _ _ _ _
    c.tls_serialize_into.ensures.appends)

pub returns-in-Parent-clause-appends : goal.returns-in-Parent-clause-appends
returns-in-Parent-clause-appends c = let is = c.in-Parent.is in rw is
    (tagged_appends _ _ node_variants_meet _ _ _ _ c.tls_serialize_into-in-Parent.ensures.appends)
