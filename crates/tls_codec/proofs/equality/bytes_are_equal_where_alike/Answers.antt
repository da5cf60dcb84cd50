use Rattle.tls_codec.proofs.Alike.{bytes_alike}
use Rattle.tls_codec.proofs.equality.bytes_are_equal_where_alike.Goals as goal

pub returns-clause-vl_bytes : goal.returns-clause-vl_bytes
returns-clause-vl_bytes g c = λ x y e. bytes_alike x.vec.items y.vec.items e

pub returns-clause-vl_byte_vec : goal.returns-clause-vl_byte_vec
returns-clause-vl_byte_vec g c = λ x y e. bytes_alike x.vec.items y.vec.items e

pub returns-clause-secret_vl_bytes : goal.returns-clause-secret_vl_bytes
returns-clause-secret_vl_bytes g c = λ x y e. bytes_alike x.0.vec.items y.0.vec.items e

pub returns-clause-secret_vl_byte_vec : goal.returns-clause-secret_vl_byte_vec
returns-clause-secret_vl_byte_vec g c = λ x y e. bytes_alike x.0.vec.items y.0.vec.items e

pub returns-clause-counted : goal.returns-clause-counted
returns-clause-counted g c = λ x y e. bytes_alike x.vec.items y.vec.items e
