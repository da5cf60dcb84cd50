use Rattle.std.proofs.Common.{arith}
use Rattle.tls_codec_wire.proofs.Bytes.{are_bytes}
use Rattle.tls_codec_grammar.proofs.Appending.{whole_appended}
use Rattle.tls_codec_grammar.proofs.NumberCalls.{own_shortest}
use Rattle.tls_codec_grammar.proofs.digits.append_digits.Goals as goal

pub returns-clause-appends : goal.returns-clause-appends
returns-clause-appends c =
    let items = rw c.in_ok-extend_from_slice.was at c.extend_from_slice.ensures.items in
    whole_appended (own_shortest _ (λ i. omega (arith, c.type_inv.digits i))) items (omega arith)

pub returns-in_err-extend_from_slice-clause-bytes : goal.returns-in_err-extend_from_slice-clause-bytes
returns-in_err-extend_from_slice-clause-bytes c = are_bytes _ (λ i. omega (arith, c.type_inv.digits i))

pub returns-clause-bytes : goal.returns-clause-bytes
returns-clause-bytes c = are_bytes _ (λ i. omega (arith, c.type_inv.digits i))
