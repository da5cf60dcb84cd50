use Rattle.std.proofs.Common.{ℕ}
use Rattle.tls_codec_grammar.specs.Tree.{Number}
use Rattle.tls_codec_grammar.specs.Grammar.{number}
use Rattle.tls_codec_grammar.specs.Decoding.{Begins}
use Rattle.tls_codec_grammar.proofs.NumberCalls.{at_digits}
use Rattle.tls_codec_validate.proofs.tags.split_u64.Goals as goal

pub returns-clause-finds : goal.returns-clause-finds
returns-clause-finds c =
    let width = rw c.in_ok-digits.ensures.ok at c.split_digits.ensures.width in
    let splits = rw c.in_ok-digits.ensures.ok at c.split_digits.ensures.splits in
    let begins = λ (n : ℕ). Begins (number 8) c.args.bytes.now (Number n) c.in_ok-digits.rest.now in
    at_digits begins 7 _ c.in_ok-digits.digits width c.from_be_bytes.ensures splits
