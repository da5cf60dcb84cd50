use Rattle.std.specs.Hash.{items_Alike}
use Rattle.tls_codec.specs.Contents.{secret_elements_of}
use Rattle.tls_codec_vectors.proofs.laws.equal_secret_vectors_have_equal_hashes.Goals as goal

pub returns : goal.returns
returns g c = λ x y same. (items_Alike (record { fed = g.met.T.Hash.respects_eq })).fed (secret_elements_of x) (secret_elements_of y) same
