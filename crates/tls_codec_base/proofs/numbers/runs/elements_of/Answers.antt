use Rattle.std.proofs.Common.{◌<◌, arith, length, rules}
use Rattle.std.proofs.lemmas.Result.{err_from_is_err_and}
use Rattle.tls_codec_wire.proofs.Bytes.{are_bytes}
use Rattle.tls_codec_base.proofs.NumberRuns.{digits_begin}
use Rattle.tls_codec_base.proofs.numbers.runs.elements_of.Goals as goal

pub returns-in_err-numbers_of-clause-read : goal.returns-in_err-numbers_of-clause-read
returns-in_err-numbers_of-clause-read g c =
    let p = err_from_is_err_and c.from_residual.result c.from_residual.ensures.1 in
    let bytes = are_bytes c.args.bytes.now (λ i. omega (arith, c.type_inv.bytes i)) in
    let some : 0 < length c.args.bytes.now = search rules in
    rw (p.1, p.2) (c.in_err-numbers_of.ensures.err, digits_begin g.row.K c.args.bytes.now bytes some (omega (arith, c.if-bytes-ne0.false)))
