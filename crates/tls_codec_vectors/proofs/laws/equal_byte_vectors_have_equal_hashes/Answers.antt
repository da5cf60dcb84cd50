use Rattle.std.proofs.Common.{◌≡◌, ℕ, List, true, ap}
use Rattle.std.specs.Prelude.{nat_eq}
use Rattle.std.specs.Cmp.Lexicographic.{bytes_decides, pointwise}
use Rattle.std.specs.Hash as fed
use Rattle.tls_codec.specs.Contents.{bytes_of, fixed_bytes_of, secret_bytes_of, secret_vec_bytes_of, vec_bytes_of}
use Rattle.tls_codec_vectors.proofs.laws.equal_byte_vectors_have_equal_hashes.Goals as goal

fed_alike : (a b : List ℕ) → pointwise nat_eq a b ≡ true → fed.slice fed.u8 a ≡ fed.slice fed.u8 b
fed_alike a b same = ap (fed.slice fed.u8) ((bytes_decides a b).0 same)

pub returns : goal.returns
returns g c = record {
  fixed = λ x y. fed_alike (fixed_bytes_of x) (fixed_bytes_of y);
  variable = λ x y. fed_alike (bytes_of x) (bytes_of y);
  variable_vec = λ x y. fed_alike (vec_bytes_of x) (vec_bytes_of y);
  secret = λ x y. fed_alike (secret_bytes_of x) (secret_bytes_of y);
  secret_vec = λ x y. fed_alike (secret_vec_bytes_of x) (secret_vec_bytes_of y);
}
