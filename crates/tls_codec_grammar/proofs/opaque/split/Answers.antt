use Rattle.std.proofs.Common.{arith}
use Rattle.std.proofs.lemmas.Result.{err_from_is_err_and}
use Rattle.tls_codec_grammar.proofs.CountedDecoding.{count_refuses}
use Rattle.tls_codec_grammar.proofs.OpaqueDecoding.{bytes_begin, cut_off_refused}
use Rattle.tls_codec_grammar.proofs.opaque.split.Goals as goal

pub returns-in_err-length-clause-splits : goal.returns-in_err-length-clause-splits
returns-in_err-length-clause-splits g c =
    let p = err_from_is_err_and c.from_residual.result c.from_residual.ensures.1 in
    rw (p.1, p.2) (count_refuses g.met.F.LengthField.lawful _ _ _ c.in_err-length.ensures.err)

pub returns-then-rest-length-clause-splits : goal.returns-then-rest-length-clause-splits
returns-then-rest-length-clause-splits g c =
    cut_off_refused g.met.F.LengthField.lawful (record { declared = _; rest = _; begins = c.in_ok-length.ensures.ok; short = c.if-rest-length.true }) c.cut_off.ensures

pub returns-clause-splits : goal.returns-clause-splits
returns-clause-splits g c =
    bytes_begin g.met.F.LengthField.lawful _ (λ i. omega (arith, c.type_inv.whole i)) c.in_ok-length.ensures.ok c.split_at.ensures.front c.split_at.ensures.back c.split_at.ensures.front_len
