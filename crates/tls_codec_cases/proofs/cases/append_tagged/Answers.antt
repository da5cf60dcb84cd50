use Rattle.std.proofs.Common.{◌∙◌, arith}
use Rattle.std.proofs.lemmas.Result.{err_from_is_err_and}
use Rattle.tls_codec_grammar.specs.laws.FormatLaws.{number_meets}
use Rattle.tls_codec_grammar.proofs.Appending.{cut_off}
use Rattle.tls_codec_base.proofs.PartsAppending.{appended_size, fields_appended, first_not_appended, others_not_appended}
use Rattle.tls_codec_cases.proofs.cases.append_tagged.Goals as goal

pub append_tag-requires : goal.append_tag-requires
append_tag-requires g c = rw c.tag.ensures (g.met.C.Cases.fits g.T.Tag.most c.args.cases.now c.requires.within)

pub returns-in_err-first : goal.returns-in_err-first
returns-in_err-first g c =
    let p = err_from_is_err_and c.from_residual.result c.from_residual.ensures.1 in
    let refused = rw c.tag.ensures at c.in_err-first.ensures in
    rw (p.1, p.2) (first_not_appended (number_meets g.T.Tag.wide g.met.T.Tag.small) (g.met.C.Cases.meet.parts _) refused refused.kept)

pub returns-in-Ok : goal.returns-in-Ok
returns-in-Ok g c =
    let first = rw c.tag.ensures at c.in_ok-first.ensures in
    let second = c.in-Ok.ensures in
    fields_appended first second (omega (arith, c.saturating_add.ensures, appended_size first, appended_size second))

pub returns-in-Err : goal.returns-in-Err
returns-in-Err g c =
    let first = rw c.tag.ensures at c.in_ok-first.ensures in
    let refused = c.in-Err.ensures in
    let kept = cut_off _ c.truncate.ensures.items (omega (arith, c.len-at.ensures)) (refused.kept ∙ first.held) in
    others_not_appended (number_meets g.T.Tag.wide g.met.T.Tag.small) (g.met.C.Cases.meet.parts _) first refused kept
