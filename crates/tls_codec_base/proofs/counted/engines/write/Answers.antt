use Rattle.std.proofs.Common.{arith, refl, inl}
use Rattle.std.proofs.lemmas.Result.{err_from_is_err_and}
use Rattle.tls_codec_grammar.specs.laws.FormatLaws.{content_meets, counted_list_meets}
use Rattle.tls_codec_grammar.proofs.CountedEncoding.{field_breaks_count, field_breaks_inside, field_sends, named_breaks}
use Rattle.tls_codec_base.proofs.ListWriting.{content_announced}
use Rattle.tls_codec_base.proofs.counted.engines.write.Goals as goal

pub returns-in_err-length-clause-writes : goal.returns-in_err-length-clause-writes
returns-in_err-length-clause-writes g c =
    let p = err_from_is_err_and c.from_residual.result c.from_residual.ensures.1 in
    let refused = c.in_err-length.ensures.err in
    let m = g.met.F.LengthField.lawful in
    rw (p.1, p.2) (named_breaks (counted_list_meets m (g.met.K.ElementCoding.lawful c.args.coding.now)) (inl (refused.0, λ held. absurd (omega (arith, m.small _ held, refused.1)))) refl)

pub returns-in_err-width-clause-writes : goal.returns-in_err-width-clause-writes
returns-in_err-width-clause-writes g c =
    let p = err_from_is_err_and c.from_residual-in_err-width.result c.from_residual-in_err-width.ensures.1 in
    let was = c.in_err-width.was in
    let sum = c.in_ok-length.ensures.ok in
    let sent = c.write_length.ensures in
    let m = g.met.F.LengthField.lawful in
    rw (p.1, p.2) (field_breaks_count m (content_meets (g.met.K.ElementCoding.lawful c.args.coding.now)) _ (counted_list_meets m (g.met.K.ElementCoding.lawful c.args.coding.now)) (content_announced _ _ _ sum) sum sent.beginning (λ long. (sent.out_of_bounds long).1) c.in_err-width.ensures.refused sent.counts)

pub returns-in_err-sent-clause-writes : goal.returns-in_err-sent-clause-writes
returns-in_err-sent-clause-writes g c =
    let p = err_from_is_err_and c.from_residual-in_err-sent.result c.from_residual-in_err-sent.ensures.1 in
    rw (p.1, p.2) (field_breaks_inside g.met.F.LengthField.lawful (content_meets (g.met.K.ElementCoding.lawful c.args.coding.now)) (content_announced _ _ _ c.in_ok-length.ensures.ok) c.in_ok-width.ensures.ok c.write_length.ensures.counts c.in_err-sent.ensures)

pub returns-clause-writes : goal.returns-clause-writes
returns-clause-writes g c =
    field_sends g.met.F.LengthField.lawful (content_meets (g.met.K.ElementCoding.lawful c.args.coding.now)) (content_announced _ _ _ c.in_ok-length.ensures.ok) c.in_ok-width.ensures.ok c.write_length.ensures.counts c.in_ok-sent.ensures (omega (arith, c.saturating_add.ensures))
