use Rattle.std.proofs.Common.{arith, sym, subst, ◌≡◌, List, ℕ, length}
use Rattle.tls_codec_wire.specs.Digits.{value}
use Rattle.tls_codec_wire.proofs.Bytes.{are_bytes}
use Rattle.tls_codec_grammar.specs.Tree.{Number}
use Rattle.tls_codec_grammar.specs.Grammar.{number}
use Rattle.tls_codec_grammar.specs.Shortest.{IsShortest}
use Rattle.tls_codec_grammar.proofs.NumberCalls.{own_shortest}
use Rattle.tls_codec_grammar.proofs.digits.digits_vector.Goals as goal

pub returns-clause-ok : goal.returns-clause-ok
returns-clause-ok c =
    let digits = c.args.digits.now in
    let is_ok = c.in_ok-extend_from_slice.was in
    let items = c.extend_from_slice.ensures.items in
    let new = c.new-bytes.ensures.items in
    let same : c.extend_from_slice.new.self.items ≡ digits = rw (is_ok, new) at items in
    subst (λ (u : List ℕ). IsShortest (number (length digits)) u (Number (value digits))) (sym same)
    (own_shortest digits (λ i. omega (arith, c.type_inv.digits i)))

pub returns-in_err-extend_from_slice-clause-bytes : goal.returns-in_err-extend_from_slice-clause-bytes
returns-in_err-extend_from_slice-clause-bytes c = are_bytes _ (λ i. omega (arith, c.type_inv.digits i))

pub returns-clause-bytes : goal.returns-clause-bytes
returns-clause-bytes c = are_bytes _ (λ i. omega (arith, c.type_inv.digits i))
