use Rattle.std.proofs.Common.{ℕ}
use Rattle.tls_codec_grammar.specs.Tree.{Number}
use Rattle.tls_codec_grammar.specs.Grammar.{number}
use Rattle.tls_codec_grammar.specs.Decoding.{Begins}
use Rattle.tls_codec_grammar.proofs.NumberCalls.{at_digits}
use Rattle.tls_codec_base.proofs.numbers.uint8.U8DeserializeBytes.tls_deserialize_bytes.Goals as goal

pub returns-clause-splits : goal.returns-clause-splits
returns-clause-splits c =
    let found = c.in_ok-digits.ensures in
    let begins = λ (n : ℕ). Begins (number 1) c.args.bytes.now (Number n) c.in_ok-digits.rest.now in
    at_digits begins 0 _ c.in_ok-digits.digits found.width c.from_be_bytes.ensures found.splits
