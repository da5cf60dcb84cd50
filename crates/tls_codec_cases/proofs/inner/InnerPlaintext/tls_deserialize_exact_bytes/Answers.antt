use Rattle.std.proofs.Common.{arith, inl, rules, subst}
use Rattle.std.proofs.lemmas.Result.{err_from_is_err_and}
use Rattle.tls_codec_wire.specs.Digits.{AreBytes}
use Rattle.tls_codec_wire.proofs.Bytes.{AreBytes-left, are_bytes}
use Rattle.tls_codec_cases.proofs.LastByte.{inner_read, none_of_zeros, type_refused}
use Rattle.tls_codec_cases.proofs.inner.InnerPlaintext.tls_deserialize_exact_bytes.Goals as goal

pub returns-in_default-clause-reads : goal.returns-in_default-clause-reads
returns-in_default-clause-reads g c = inl (none_of_zeros g.T.Size.format c.args.bytes.now (search rules))

pub returns-in_err-kind-clause-reads : goal.returns-in_err-kind-clause-reads
returns-in_err-kind-clause-reads g c =
    let p = err_from_is_err_and c.from_residual.result c.from_residual.ensures.1 in
    rw (p.1, p.2) (type_refused g.T.Size.format c.in-Some.ensures c.in_err-kind.ensures.reads)

pub returns-clause-reads : goal.returns-clause-reads
returns-clause-reads g c =
    let ends = c.in-Some.ensures in
    let whole = are_bytes c.args.bytes.now (λ i. omega (arith, c.type_inv.bytes i)) in
    let bytes = AreBytes-left c.in-Some.found.0.now _ (subst AreBytes ends.whole whole) in
    rw (c.in_ok-content.ensures.ok) (inner_read g.T.Size.format ends bytes c.in_ok-kind.ensures.reads)
