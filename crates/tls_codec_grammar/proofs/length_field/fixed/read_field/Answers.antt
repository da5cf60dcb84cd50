use Rattle.tls_codec_wire.proofs.Seen.{refused_so, seen_gave}
use Rattle.tls_codec_grammar.proofs.NumberRefusals.{field_not_read}
use Rattle.tls_codec_grammar.proofs.length_field.fixed.read_field.Goals as goal

pub returns-in-Err-clause-refused : goal.returns-in-Err-clause-refused
returns-in-Err-clause-refused g c = refused_so (λ x q. field_not_read _ _ x _ _ q.1) c.in-Err.ensures.named.refused

pub returns-in-Err-clause-gave : goal.returns-in-Err-clause-gave
returns-in-Err-clause-gave g c = seen_gave g.met.R.Source.gives_in_order c.in-Err.ensures.named.refused.seen
