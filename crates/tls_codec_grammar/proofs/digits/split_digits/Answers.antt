use Rattle.std.proofs.Common.{arith}
use Rattle.tls_codec_grammar.proofs.NumberCalls.{front_are_bytes, number_begins}
use Rattle.tls_codec_grammar.proofs.digits.split_digits.Goals as goal

pub returns-clause-splits : goal.returns-clause-splits
returns-clause-splits g c =
    let cases = c.in-Some.ensures.cases in
    number_begins _ _ _ _ cases.0 cases.1 (omega (arith, cases.2)) (λ i. omega (arith, c.type_inv.bytes i))

pub returns-clause-bytes : goal.returns-clause-bytes
returns-clause-bytes g c = front_are_bytes _ _ _ c.in-Some.ensures.cases.0 (λ i. omega (arith, c.type_inv.bytes i))
