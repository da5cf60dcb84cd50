use Rattle.std.proofs.Common.{refl}
use Rattle.std.specs.Cmp.Lexicographic.{lists_agrees}
use Rattle.tls_codec.specs.Contents.{bytes_of, vec_bytes_of}
use Rattle.tls_codec_vectors.proofs.laws.byte_vectors_are_ordered_as_lists_of_bytes.Goals as goal

pub returns-clause-bytes_partly : goal.returns-clause-bytes_partly
returns-clause-bytes_partly c = λ x y. lists_agrees (λ a b. refl) (bytes_of x) (bytes_of y)

pub returns-clause-vec_partly : goal.returns-clause-vec_partly
returns-clause-vec_partly c = λ x y. lists_agrees (λ a b. refl) (vec_bytes_of x) (vec_bytes_of y)
