use Rattle.std.proofs.Common.{true}
use Rattle.std.proofs.lemmas.Result.{err_from_is_err_and}
use Rattle.tls_codec_grammar.proofs.CountedDecoding.{count_refuses}
use Rattle.tls_codec_base.proofs.Enclosing.{split_whole}
use Rattle.tls_codec_validate.proofs.Inside.{enclosed_leaves, enclosed_rejects, rejected_inside}
use Rattle.tls_codec_validate.proofs.Validating.{rejects}
use Rattle.tls_codec_validate.proofs.enclosed.skip_enclosed.Goals as goal

pub returns-in_err-length-clause-validates : goal.returns-in_err-length-clause-validates
returns-in_err-length-clause-validates g c =
    let p = err_from_is_err_and c.from_residual.result c.from_residual.ensures.1 in
    let refused = rw c.in_err-length.ensures.err.0 at c.split_length.ensures.err in
    rw (p.1, p.2) (rejects (count_refuses g.met.F.LengthField.lawful _ {lean = true} _ _ refused))

pub returns-in-Ok-clause-validates : goal.returns-in-Ok-clause-validates
returns-in-Ok-clause-validates g c =
    let read = rw c.in_ok-length.ensures.ok at c.split_length.ensures.ok in
    let whole = split_whole _ c.split_at.ensures.front c.split_at.ensures.back in
    enclosed_leaves g.met.F.LengthField.lawful _ _ read whole c.split_at.ensures.front_len c.in-Ok.ensures.validates

pub returns-in-Err-clause-validates : goal.returns-in-Err-clause-validates
returns-in-Err-clause-validates g c =
    let read = rw c.in_ok-length.ensures.ok at c.split_length.ensures.ok in
    let whole = split_whole _ c.split_at.ensures.front c.split_at.ensures.back in
    enclosed_rejects g.met.F.LengthField.lawful _ _ read whole c.split_at.ensures.front_len c.in-Err.ensures.validates

pub returns-in-Err-clause-rejected : goal.returns-in-Err-clause-rejected
returns-in-Err-clause-rejected g c =
    let read = rw c.in_ok-length.ensures.ok at c.split_length.ensures.ok in
    let whole = split_whole _ c.split_at.ensures.front c.split_at.ensures.back in
    rejected_inside g.F.LengthField.field g.T.Size.format g.T.DeserializeBytes.names g.T.Validate.places _ _ read whole c.split_at.ensures.front c.split_at.ensures.front_len c.in-Err.rejected c.split_at-in-Err.result.1 c.split_at-in-Err.ensures.back c.in-Err.ensures.rejected
