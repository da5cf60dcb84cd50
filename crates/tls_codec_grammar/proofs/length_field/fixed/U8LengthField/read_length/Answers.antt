use Rattle.std.proofs.lemmas.Result.{err_from_is_err_and}
use Rattle.tls_codec_wire.specs.Digits.{Digits}
use Rattle.tls_codec_wire.specs.Numbers.{GaveNumber}
use Rattle.tls_codec_grammar.proofs.NumberCalls.{at_digits}
use Rattle.tls_codec_grammar.proofs.length_field.fixed.U8LengthField.read_length.Goals as goal

pub returns-clause-ok : goal.returns-clause-ok
returns-clause-ok g c =
    let read = c.in_ok-digits.ensures in
    at_digits (GaveNumber g.R.Source.given (Digits 1) c.args.src.now c.read_field.new.src) 0 _ c.in_ok-digits.digits read.width c.from_be_bytes.ensures read.ok

pub returns-in_err-digits-clause-refused : goal.returns-in_err-digits-clause-refused
returns-in_err-digits-clause-refused g c =
    let p = err_from_is_err_and c.from_residual.result c.from_residual.ensures.1 in
    rw (p.1, p.2) c.in_err-digits.ensures.refused
