use Rattle.tls_codec.proofs.Alike.{bytes_alike}
use Rattle.tls_codec.proofs.equality.bytes_of_any_name_are_equal_where_alike.Goals as goal

pub returns-clause-bytes : goal.returns-clause-bytes
returns-clause-bytes g c = λ x y e. bytes_alike x.vec.items y.vec.items e

pub returns-clause-secret : goal.returns-clause-secret
returns-clause-secret g c = λ x y e. bytes_alike x.0.vec.items y.0.vec.items e
