use Rattle.std.proofs.Common.{Ok, Err}
use Rattle.std.proofs.lemmas.Result.{err_from_is_err_and}
use Rattle.tls_codec_base.proofs.ArrayCalls.{array_appends}
use Rattle.tls_codec_base.proofs.arrays.ArrayU8Serialize.tls_serialize_into.Goals as goal

pub returns-in_err-count-clause-appends : goal.returns-in_err-count-clause-appends
returns-in_err-count-clause-appends g c =
    let p = err_from_is_err_and c.from_residual.result c.from_residual.ensures.1 in
    rw (p.1, p.2) (array_appends _ _ c.told-self c.append_digits.ensures.bytes _ _ (Err _) c.in_err-count.ensures.appends)

pub returns-clause-appends : goal.returns-clause-appends
returns-clause-appends g c = array_appends _ _ c.told-self c.append_digits.ensures.bytes _ _ (Ok _) c.in_ok-count.ensures.appends
