use Rattle.std.proofs.Common.{◌∙◌, arith}
use Rattle.std.proofs.lemmas.Result.{err_from_is_err_and}
use Rattle.tls_codec_grammar.specs.laws.InsideLaws.{inside_meets, zeros_meet}
use Rattle.tls_codec_grammar.proofs.Appending.{cut_off}
use Rattle.tls_codec_base.proofs.PartsAppending.{appended_size, fields_appended}
use Rattle.tls_codec_cases.proofs.UpToEnd.{inside_not_appended_first, inside_not_appended_rest}
use Rattle.tls_codec_cases.proofs.padded.Padded.tls_serialize_into_for.Goals as goal

pub returns-in_err-sent : goal.returns-in_err-sent
returns-in_err-sent g c =
    let p = err_from_is_err_and c.from_residual.result c.from_residual.ensures.1 in
    let content = inside_meets (g.met.T.SizeFor.lawful (g.C.Size.plain c.args.context.now)) in
    let refused = c.in_err-sent.ensures.appends in
    record { appends = rw (p.1, p.2) (inside_not_appended_first content zeros_meet refused refused.kept) }

pub returns-in-Ok : goal.returns-in-Ok
returns-in-Ok g c =
    let sent = c.in_ok-sent.ensures.appends in
    let zeros = c.in-Ok.ensures.appends in
    record { appends = fields_appended sent zeros (omega (arith, c.saturating_add.ensures, appended_size sent, appended_size zeros)) }

pub returns-in-Err : goal.returns-in-Err
returns-in-Err g c =
    let content = inside_meets (g.met.T.SizeFor.lawful (g.C.Size.plain c.args.context.now)) in
    let sent = c.in_ok-sent.ensures.appends in
    let refused = c.in-Err.ensures.appends in
    let kept = cut_off _ c.truncate.ensures.items (omega (arith, c.len-at.ensures)) (refused.kept ∙ sent.held) in
    record { appends = inside_not_appended_rest content zeros_meet sent refused kept }
