use Rattle.std.proofs.Common.{arith}
use Rattle.tls_codec_base.proofs.PartsAppending.{option_appended, option_not_appended}
use Rattle.tls_codec_base.proofs.options.OptionSerialize.tls_serialize_into.Goals as goal

pub returns-in-Ok-clause-appends : goal.returns-in-Ok-clause-appends
returns-in-Ok-clause-appends g c =
    let some = c.in-Some.is in
    let tag = rw c.in_ok-extend_from_slice-in-Some.was at c.extend_from_slice-in-Some.ensures.items in
    rw some (option_appended tag c.in-Ok.ensures.appends c.saturating_add.ensures (omega arith))

pub returns-in-Err-clause-appends : goal.returns-in-Err-clause-appends
returns-in-Err-clause-appends g c =
    let some = c.in-Some.is in
    let tag = rw c.in_ok-extend_from_slice-in-Some.was at c.extend_from_slice-in-Some.ensures.items in
    rw some (option_not_appended g.met.T.Size.lawful tag c.in-Err.ensures.appends c.truncate.ensures.items (omega (arith, c.len-at.ensures)))
