use Rattle.std.proofs.Common.{arith}
use Rattle.tls_codec_wire.proofs.Bytes.{are_bytes}
use Rattle.tls_codec_grammar.proofs.opaque.see_bytes.Goals as goal

pub returns : goal.returns
returns c = are_bytes _ (λ i. omega (arith, c.type_inv._content i))
