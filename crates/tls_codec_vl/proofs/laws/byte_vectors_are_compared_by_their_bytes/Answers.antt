use Rattle.std.proofs.Common.{refl}
use Rattle.std.specs.Cmp.Lexicographic.{lists_agrees}
use Rattle.tls_codec_vl.proofs.laws.byte_vectors_are_compared_by_their_bytes.Goals as goal

pub returns-clause-partly : goal.returns-clause-partly
returns-clause-partly g c = λ x y. lists_agrees (λ a b. refl) x.vec.items y.vec.items
