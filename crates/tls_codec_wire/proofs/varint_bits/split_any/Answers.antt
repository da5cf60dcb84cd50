use Rattle.std.proofs.Common.{arith}
use Rattle.std.proofs.lemmas.Result.{err_from_is_err_and}
use Rattle.tls_codec_wire.proofs.VarintReads.{digits_split, refused_so, spells_below, wide_or_great}
use Rattle.tls_codec_wire.proofs.varint_bits.split_any.Goals as goal

pub returns-in_err-number-clause-err : goal.returns-in_err-number-clause-err
returns-in_err-number-clause-err g c =
    let p = err_from_is_err_and c.from_residual.result c.from_residual.ensures.1 in
    let h = digits_split c.args.bytes.now (λ i. omega (arith, c.type_inv.bytes i)) c.in-Some.ensures.cases.0 c.split_at.ensures.front c.split_at.ensures.back c.split_at.ensures.front_len c.said_by-more.ensures c.number_from-number.ensures.value c.number_from-number.ensures.fits in
    rw (p.1, p.2, h.0) (refused_so _ _ c.in_err-number.ensures.0 (wide_or_great h.1 _ _ c.in_err-number.ensures.1))

pub returns-clause-ok : goal.returns-clause-ok
returns-clause-ok g c =
    let h = digits_split c.args.bytes.now (λ i. omega (arith, c.type_inv.bytes i)) c.in-Some.ensures.cases.0 c.split_at.ensures.front c.split_at.ensures.back c.split_at.ensures.front_len c.said_by-more.ensures c.number_from-number.ensures.value c.number_from-number.ensures.fits in
    record { front = _; whole = h.0; spelled = spells_below h.1 _ c.in_ok-number.ensures.0 c.in_ok-number.ensures.1 c.in_ok-number.ensures.2 }
