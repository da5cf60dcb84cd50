use Rattle.std.proofs.lemmas.Result.{err_from_is_err_and}
use Rattle.tls_codec_grammar.specs.Format.{counted_bytes_format}
use Rattle.tls_codec_grammar.proofs.Appending.{empty_made, empty_refused}
use Rattle.tls_codec_grammar.proofs.opaque.to_vec.Goals as goal

pub returns-in_err-append-clause-makes : goal.returns-in_err-append-clause-makes
returns-in_err-append-clause-makes g c =
    let p = err_from_is_err_and c.from_residual.result c.from_residual.ensures.1 in
    rw (p.1, p.2) (empty_refused c.new-form.ensures.items c.in_err-append.ensures.appends)

pub returns-clause-makes : goal.returns-clause-makes
returns-clause-makes g c = empty_made (counted_bytes_format g.F.LengthField.field) c.new-form.ensures.items c.in_ok-append.ensures.appends
