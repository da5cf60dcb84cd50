use Rattle.std.proofs.Common.{◌∙◌, refl, arith}
use Rattle.std.proofs.lemmas.Result.{err_from_is_err_and}
use Rattle.tls_codec_grammar.specs.laws.FormatLaws.{fields_meets, nothing_meets}
use Rattle.tls_codec_grammar.proofs.Appending.{cut_off}
use Rattle.tls_codec_base.proofs.PartsAppending.{appended_after, appended_size, fields_appended, first_not_appended, nothing_appended, others_not_appended}
use Rattle.tls_codec_base.proofs.products.triple.Tuple3Serialize.tls_serialize_into.Goals as goal

pub returns-in_err-first-clause-appends : goal.returns-in_err-first-clause-appends
returns-in_err-first-clause-appends g c =
    let last = fields_meets g.met.V.Size.lawful nothing_meets in
    let others = fields_meets g.met.U.Size.lawful last in
    let p = err_from_is_err_and c.from_residual.result c.from_residual.ensures.1 in
    let refused = c.in_err-first.ensures.appends in
    rw (p.1, p.2) (first_not_appended g.met.T.Size.lawful others refused refused.kept)

pub returns-in-Err-clause-appends : goal.returns-in-Err-clause-appends
returns-in-Err-clause-appends g c =
    let last = fields_meets g.met.V.Size.lawful nothing_meets in
    let others = fields_meets g.met.U.Size.lawful last in
    let first = c.in_ok-first.ensures.appends in
    let refused = c.in-Err.ensures.appends in
    let kept = cut_off _ c.truncate.ensures.items (omega (arith, c.len-at.ensures)) (refused.kept ∙ first.held) in
    others_not_appended g.met.T.Size.lawful others first (first_not_appended g.met.U.Size.lawful last refused refused.kept) kept

pub returns-in-Err-tls_serialize_into-clause-appends : goal.returns-in-Err-tls_serialize_into-clause-appends
returns-in-Err-tls_serialize_into-clause-appends g c =
    let last = fields_meets g.met.V.Size.lawful nothing_meets in
    let others = fields_meets g.met.U.Size.lawful last in
    let first = c.in_ok-first.ensures.appends in
    let second = c.in-Ok.ensures.appends in
    let refused = c.in-Err-tls_serialize_into.ensures.appends in
    let kept = cut_off _ c.truncate-in-Err-tls_serialize_into.ensures.items (omega (arith, c.len-at.ensures)) (refused.kept ∙ appended_after first second) in
    others_not_appended g.met.T.Size.lawful others first (others_not_appended g.met.U.Size.lawful last second (first_not_appended g.met.V.Size.lawful nothing_meets refused refused.kept) refl) kept

pub returns-in-Ok-tls_serialize_into-clause-appends : goal.returns-in-Ok-tls_serialize_into-clause-appends
returns-in-Ok-tls_serialize_into-clause-appends g c =
    let first = c.in_ok-first.ensures.appends in
    let second = c.in-Ok.ensures.appends in
    let third = c.in-Ok-tls_serialize_into.ensures.appends in
    fields_appended first (fields_appended second (fields_appended third (nothing_appended _) refl) refl) (omega (arith, c.saturating_add.ensures, c.saturating_add-in-Ok-tls_serialize_into.ensures, appended_size first, appended_size second, appended_size third))
