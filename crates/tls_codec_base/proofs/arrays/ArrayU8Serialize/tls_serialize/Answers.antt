use Rattle.std.proofs.lemmas.Result.{err_from_is_err_and}
use Rattle.tls_codec_base.proofs.ArrayCalls.{array_breaks, array_sends}
use Rattle.tls_codec_base.proofs.arrays.ArrayU8Serialize.tls_serialize.Goals as goal

pub returns-in_err-count-clause-writes : goal.returns-in_err-count-clause-writes
returns-in_err-count-clause-writes g c =
    let p = err_from_is_err_and c.from_residual.result c.from_residual.ensures.1 in
    rw (p.1, p.2) (array_breaks _ _ c.told-self c.write_digits.ensures.bytes c.in_err-count.ensures.writes)

pub returns-clause-writes : goal.returns-clause-writes
returns-clause-writes g c = array_sends _ _ c.told-self c.write_digits.ensures.bytes c.in_ok-count.ensures.writes
