use Rattle.std.proofs.Common.{◌∙◌, arith}
use Rattle.std.proofs.lemmas.Result.{err_from_is_err_and}
use Rattle.tls_codec_grammar.specs.laws.InsideLaws.{bytes_to_end_meet, inside_meets}
use Rattle.tls_codec_grammar.proofs.Appending.{cut_off}
use Rattle.tls_codec_cases.proofs.UpToEnd.{inside_not_appended_first, inside_not_appended_rest}
use Rattle.tls_codec_cases.proofs.followed.Followed.tls_serialize_into.Goals as goal

pub returns-in_err-sent : goal.returns-in_err-sent
returns-in_err-sent g c =
    let p = err_from_is_err_and c.from_residual.result c.from_residual.ensures.1 in
    let content = inside_meets g.met.T.Size.lawful in
    let refused = c.in_err-sent.ensures.appends in
    record { appends = rw (p.1, p.2) (inside_not_appended_first content bytes_to_end_meet refused refused.kept) }

pub returns-in-Err : goal.returns-in-Err
returns-in-Err g c =
    let content = inside_meets g.met.T.Size.lawful in
    let sent = c.in_ok-sent.ensures.appends in
    let refused = c.in-Err.ensures.appends in
    let kept = cut_off _ c.truncate.ensures.items (omega (arith, c.len-at.ensures)) (refused.kept ∙ sent.held) in
    record { appends = inside_not_appended_rest content bytes_to_end_meet sent refused kept }
