use Rattle.std.proofs.Common.{◌∙◌, arith}
use Rattle.std.proofs.lemmas.Result.{err_from_is_err_and}
use Rattle.tls_codec_grammar.proofs.Appending.{cut_off}
use Rattle.tls_codec_base.proofs.PartsAppending.{appended_size, fields_appended, first_not_appended, others_not_appended}
use Rattle.tls_codec_base.proofs.ThenEncoding.{then_appended, then_not_appended}
use Rattle.tls_codec_base.proofs.context.by_ref_then.ByRefThenSerialize.tls_serialize_into.Goals as goal

pub returns-in_err-first-clause-appends : goal.returns-in_err-first-clause-appends
returns-in_err-first-clause-appends g c =
    let p = err_from_is_err_and c.from_residual.result c.from_residual.ensures.1 in
    let rest = g.met.U.SizeFor.lawful (g.T.Size.plain c.args.self.now.first.now) in
    let refused = c.in_err-first.ensures.appends in
    rw (p.1, p.2) (then_not_appended g.T.Size.format g.U.SizeFor.format_for (first_not_appended g.met.T.Size.lawful rest refused refused.kept))

pub returns-in-Ok-clause-appends : goal.returns-in-Ok-clause-appends
returns-in-Ok-clause-appends g c =
    let first = c.in_ok-first.ensures.appends in
    let rest = c.in-Ok.ensures.appends in
    then_appended g.T.Size.format g.U.SizeFor.format_for (fields_appended first rest (omega (arith, c.saturating_add.ensures, appended_size first, appended_size rest)))

pub returns-in-Err-clause-appends : goal.returns-in-Err-clause-appends
returns-in-Err-clause-appends g c =
    let lawful = g.met.U.SizeFor.lawful (g.T.Size.plain c.args.self.now.first.now) in
    let first = c.in_ok-first.ensures.appends in
    let refused = c.in-Err.ensures.appends in
    let kept = cut_off _ c.truncate.ensures.items (omega (arith, c.len-at.ensures)) (refused.kept ∙ first.held) in
    then_not_appended g.T.Size.format g.U.SizeFor.format_for (others_not_appended g.met.T.Size.lawful lawful first refused kept)
