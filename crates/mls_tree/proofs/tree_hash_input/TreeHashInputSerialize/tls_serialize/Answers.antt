use Rattle.tls_codec.proofs.OwnMessages.{tagged_writes}
use Rattle.mls_tree.specs.TreeHashInput.{tree_hash_input_variants_meet}
use Rattle.mls_tree.proofs.tree_hash_input.TreeHashInputSerialize.tls_serialize.Goals as goal

pub returns-in-Leaf-clause-writes : goal.returns-in-Leaf-clause-writes
returns-in-Leaf-clause-writes g c = let is = c.in-Leaf.is in rw is (tagged_writes _ _ tree_hash_input_variants_meet _ _ _ _ _
    c.tls_serialize.ensures.writes)

pub returns-in-Parent-clause-writes : goal.returns-in-Parent-clause-writes
returns-in-Parent-clause-writes g c = let is = c.in-Parent.is in rw is
    (tagged_writes _ _ tree_hash_input_variants_meet _ _ _ _ _ c.tls_serialize-in-Parent.ensures.writes)
