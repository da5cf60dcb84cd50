use Rattle.std.proofs.Common.{rules}
use Rattle.std.proofs.lemmas.Result.{err_from_is_err_and}
use Rattle.tls_codec_wire.specs.Digits.{AreBytes}
use Rattle.tls_codec_grammar.proofs.OpaqueDecoding.{bytes_given, opaque_content_not_read, opaque_length_not_read}
use Rattle.tls_codec_grammar.proofs.Named.{named_leaves}
use Rattle.tls_codec_grammar.proofs.opaque.read.Goals as goal

pub returns-in_err-length-clause-reads : goal.returns-in_err-length-clause-reads
returns-in_err-length-clause-reads g c =
    let lawful = g.met.F.LengthField.lawful in
    let p = err_from_is_err_and c.from_residual.result c.from_residual.ensures.1 in
    rw (p.1, p.2) (named_leaves (opaque_length_not_read lawful c.in_err-length.ensures.refused))

pub returns-in_err-length-clause-named : goal.returns-in_err-length-clause-named
returns-in_err-length-clause-named g c =
    let p = err_from_is_err_and c.from_residual.result c.from_residual.ensures.1 in
    rw (p.1, p.2) (opaque_length_not_read g.met.F.LengthField.lawful c.in_err-length.ensures.refused)

pub returns-in_err-content-clause-reads : goal.returns-in_err-content-clause-reads
returns-in_err-content-clause-reads g c =
    let source = g.met.R.Source in
    let lawful = g.met.F.LengthField.lawful in
    let p = err_from_is_err_and c.from_residual-in_err-content.result c.from_residual-in_err-content.ensures.1 in
    rw (p.1, p.2) (named_leaves (opaque_content_not_read lawful source.gives_in_order source.no_count_falls c.in_ok-length.ensures.ok c.in_err-content.ensures.refused))

pub returns-in_err-content-clause-named : goal.returns-in_err-content-clause-named
returns-in_err-content-clause-named g c =
    let source = g.met.R.Source in
    let p = err_from_is_err_and c.from_residual-in_err-content.result c.from_residual-in_err-content.ensures.1 in
    rw (p.1, p.2) (opaque_content_not_read g.met.F.LengthField.lawful source.gives_in_order source.no_count_falls c.in_ok-length.ensures.ok c.in_err-content.ensures.refused)

pub returns-clause-reads : goal.returns-clause-reads
returns-clause-reads g c =
    let content = c.in_ok-content.ensures in
    let small : AreBytes c.in_ok-content.content.items = search rules in
    bytes_given g.met.F.LengthField.lawful g.met.R.Source.gives_in_order small c.in_ok-length.ensures.ok content.ok content.count
