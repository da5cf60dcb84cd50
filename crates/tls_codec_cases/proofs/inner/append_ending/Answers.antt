use Rattle.std.proofs.Common.{◌∙◌, arith}
use Rattle.tls_codec_grammar.specs.laws.InsideLaws.{inside_meets, zeros_meet}
use Rattle.tls_codec_grammar.proofs.Appending.{cut_off}
use Rattle.tls_codec_cases.specs.InnerLaws.{nonzero_meets}
use Rattle.tls_codec_cases.proofs.UpToEnd.{inside_not_appended_rest}
use Rattle.tls_codec_cases.proofs.inner.append_ending.Goals as goal

pub returns-in-Err : goal.returns-in-Err
returns-in-Err g c =
    let sent = c.in_ok-sent.ensures.appends in
    let refused = c.in-Err.ensures.appends in
    let kept = cut_off _ c.truncate.ensures.items (omega (arith, c.len-at.ensures)) (refused.kept ∙ sent.held) in
    record { appends = inside_not_appended_rest (inside_meets (nonzero_meets g.met.T.Size.lawful)) zeros_meet sent refused kept }
