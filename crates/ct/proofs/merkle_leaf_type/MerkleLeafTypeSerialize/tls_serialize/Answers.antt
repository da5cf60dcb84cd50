use Rattle.tls_codec.specs.OwnMessages.{u8_meets}
use Rattle.tls_codec.proofs.OwnMessages.{value_writes}
use Rattle.ct.specs.MerkleLeafType.{merkle_leaf_type_has, merkle_leaf_type_known}
use Rattle.ct.proofs.merkle_leaf_type.MerkleLeafTypeSerialize.tls_serialize.Goals as goal

pub returns-clause-writes : goal.returns-clause-writes
returns-clause-writes g c =
    value_writes merkle_leaf_type_has u8_meets (merkle_leaf_type_known c.args.self.now) c.code.ensures _ _ _ _
    c.tls_serialize.ensures.writes
