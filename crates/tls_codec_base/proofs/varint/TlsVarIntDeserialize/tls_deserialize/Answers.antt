use Rattle.std.proofs.lemmas.Result.{err_from_is_err_and}
use Rattle.tls_codec_wire.proofs.Seen.{refused_so}
use Rattle.tls_codec_grammar.proofs.VarintValues.{varint_refused}
use Rattle.tls_codec_base.proofs.varint.TlsVarIntDeserialize.tls_deserialize.Goals as goal

pub returns-in_err-n-clause-reads : goal.returns-in_err-n-clause-reads
returns-in_err-n-clause-reads g c =
    let p = err_from_is_err_and c.from_residual.result c.from_residual.ensures.1 in
    rw (p.1, p.2) (record { refused = refused_so (λ x q. varint_refused _ x _ _ q) c.in_err-n.ensures.refused })

pub returns-in_err-n-clause-named : goal.returns-in_err-n-clause-named
returns-in_err-n-clause-named g c =
    let p = err_from_is_err_and c.from_residual.result c.from_residual.ensures.1 in
    rw (p.1, p.2) (record { refused = refused_so (λ x q. (varint_refused _ x _ _ q, q)) c.in_err-n.ensures.refused })
