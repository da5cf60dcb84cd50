use Rattle.std.specs.Prelude.{string_bytes}
use Rattle.tls_codec.proofs.Alike.{bytes_alike}
use Rattle.tls_codec.proofs.equality.single_values_are_equal_where_alike.Goals as goal

pub returns-clause-array : goal.returns-clause-array
returns-clause-array g c = λ x y e. bytes_alike x y e

pub returns-clause-text : goal.returns-clause-text
returns-clause-text g c = λ x y e. bytes_alike (string_bytes x) (string_bytes y) e
