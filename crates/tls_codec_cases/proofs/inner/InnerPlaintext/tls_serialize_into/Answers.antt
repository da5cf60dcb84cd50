use Rattle.std.proofs.Common.{◌∙◌, arith}
use Rattle.std.proofs.lemmas.Result.{err_from_is_err_and}
use Rattle.tls_codec_grammar.specs.laws.InsideLaws.{bytes_to_end_meet}
use Rattle.tls_codec_grammar.proofs.Appending.{cut_off}
use Rattle.tls_codec_base.proofs.PartsAppending.{appended_size, fields_appended}
use Rattle.tls_codec_cases.specs.InnerLaws.{ending_meets}
use Rattle.tls_codec_cases.proofs.UpToEnd.{inside_not_appended_first, inside_not_appended_rest}
use Rattle.tls_codec_cases.proofs.inner.InnerPlaintext.tls_serialize_into.Goals as goal

pub returns-in_err-content : goal.returns-in_err-content
returns-in_err-content g c =
    let p = err_from_is_err_and c.from_residual.result c.from_residual.ensures.1 in
    let refused = c.in_err-content.ensures.appends in
    record { appends = rw (p.1, p.2) (inside_not_appended_first bytes_to_end_meet (ending_meets g.met.T.Size.lawful) refused refused.kept) }

pub returns-in-Ok : goal.returns-in-Ok
returns-in-Ok g c =
    let content = c.in_ok-content.ensures.appends in
    let ending = c.in-Ok.ensures.appends in
    record { appends = fields_appended content ending (omega (arith, c.saturating_add.ensures, appended_size content, appended_size ending)) }

pub returns-in-Err : goal.returns-in-Err
returns-in-Err g c =
    let sent = c.in_ok-content.ensures.appends in
    let refused = c.in-Err.ensures.appends in
    let kept = cut_off _ c.truncate.ensures.items (omega (arith, c.len-at.ensures)) (refused.kept ∙ sent.held) in
    record { appends = inside_not_appended_rest bytes_to_end_meet (ending_meets g.met.T.Size.lawful) sent refused kept }
