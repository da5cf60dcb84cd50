use Rattle.std.proofs.Common.{rules, subst, ap, ◌∙◌, Err}
use Rattle.tls_codec_wire.specs.Seen.{RefusedFor}
use Rattle.tls_codec_wire.specs.Transfer.{ReadRefused}
use Rattle.tls_codec_wire.specs.declared.error.Error.{Error}
use Rattle.tls_codec_wire.proofs.Seen.{at_end, end_refused, not_at_end, refused_so, seen_nothing}
use Rattle.tls_codec_wire.proofs.transfer.expect_end.Goals as goal

pub returns-in-Ok-clause-refused : goal.returns-in-Ok-clause-refused
returns-in-Ok-clause-refused g c = not_at_end _ g.met.R.Source.gives_nothing c.in-Ok.ensures.filled (search rules)

pub returns-in-Err-EndOfStream-clause-gave : goal.returns-in-Err-EndOfStream-clause-gave
returns-in-Err-EndOfStream-clause-gave g c =
    let source = g.met.R.Source in
    seen_nothing source.gives_in_order source.gives_from_front (at_end (subst (λ (u : Error). RefusedFor g.R.Source (ReadRefused 1) c.args.src.now c.read_exactly.new.src u) c.in-Err-EndOfStream.field-0-is c.in-Err-EndOfStream.ensures.refused))

pub returns-in-Err-EndOfStream-clause-ok : goal.returns-in-Err-EndOfStream-clause-ok
returns-in-Err-EndOfStream-clause-ok g c =
    at_end (subst (λ (u : Error). RefusedFor g.R.Source (ReadRefused 1) c.args.src.now c.read_exactly.new.src u) c.in-Err-EndOfStream.field-0-is c.in-Err-EndOfStream.ensures.refused)

pub returns-in-Err-EndOfStream-clause-retried : goal.returns-in-Err-EndOfStream-clause-retried
returns-in-Err-EndOfStream-clause-retried g c =
    c.read_exactly.ensures.ended (c.in-Err-EndOfStream.is ∙ ap Err c.in-Err-EndOfStream.field-0-is)

pub returns-in-Err-clause-refused : goal.returns-in-Err-clause-refused
returns-in-Err-clause-refused g c =
    refused_so (λ x q. end_refused x _ _ _ (λ ended. search rules) q) c.in-Err.ensures.refused
