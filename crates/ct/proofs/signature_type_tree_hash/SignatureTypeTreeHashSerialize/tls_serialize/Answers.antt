use Rattle.tls_codec.specs.OwnMessages.{u8_meets}
use Rattle.tls_codec.proofs.OwnMessages.{value_writes}
use Rattle.ct.specs.SignatureTypeTreeHash.{signature_type_tree_hash_has, signature_type_tree_hash_known}
use Rattle.ct.proofs.signature_type_tree_hash.SignatureTypeTreeHashSerialize.tls_serialize.Goals as goal

pub returns-clause-writes : goal.returns-clause-writes
returns-clause-writes g c =
    value_writes signature_type_tree_hash_has u8_meets (signature_type_tree_hash_known c.args.self.now) c.code.ensures _ _ _ _
    c.tls_serialize.ensures.writes
