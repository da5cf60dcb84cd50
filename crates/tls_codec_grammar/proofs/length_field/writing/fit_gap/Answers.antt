use Rattle.std.proofs.Common.{arith}
use Rattle.tls_codec_grammar.proofs.LengthFields.{gap_narrowed, gap_widened}
use Rattle.tls_codec_grammar.proofs.length_field.writing.fit_gap.Goals as goal

pub returns-then-width-gap-clause-ok : goal.returns-then-width-gap-clause-ok
returns-then-width-gap-clause-ok c = gap_narrowed _ c.remove_bytes.ensures.items (omega (arith, c.requires.place)) (omega (arith, c.if-width-gap.true))

pub returns-clause-ok : goal.returns-clause-ok
returns-clause-ok c = gap_widened c.in_ok-widen_gap.ensures.ok (omega (arith, c.requires.place)) (omega (arith, c.if-width-gap.false))
