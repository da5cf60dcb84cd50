use Rattle.std.proofs.Common.{ℕ}
use Rattle.tls_codec_grammar.specs.Tree.{Number}
use Rattle.tls_codec_grammar.specs.Grammar.{number}
use Rattle.tls_codec_grammar.specs.Decoding.{GaveSpelling}
use Rattle.tls_codec_grammar.proofs.NumberCalls.{at_digits}
use Rattle.tls_codec_base.proofs.numbers.uint32.U32Deserialize.tls_deserialize.Goals as goal

pub returns-clause-reads : goal.returns-clause-reads
returns-clause-reads g c =
    let read = c.in_ok-digits.ensures in
    let gave = λ (n : ℕ). GaveSpelling g.R.Source.given (number 4) c.args.bytes.now c.read_digits.new.bytes (Number n) in
    at_digits gave 3 _ c.in_ok-digits.digits read.width c.from_be_bytes.ensures read.reads
