use Rattle.std.proofs.Common.{arith}
use Rattle.tls_codec_validate.proofs.Validating.{some_left}
use Rattle.tls_codec_views.proofs.InContext.{row_begins, row_fewer, row_left, same_length}
use Rattle.tls_codec_views.proofs.elements_for.ElementsForIterator.next.Goals as goal

pub take_for-element-requires : goal.take_for-element-requires
take_for-element-requires g c = row_begins g.X.Keyed.is_key _ g.T.SizeFor.format_for _ (some_left _ c.if-is_empty.ensures) c.self.invariant

pub invariant_of-self : goal.invariant_of-self
invariant_of-self g c =
    let element = c.take_for-element.ensures in
    row_left g.X.Keyed.is_key _ g.T.SizeFor.format_for g.met.T.SizeFor.lawful _ _ _ c.self.invariant element.whole element.encoding

pub returns-clause-goes : goal.returns-clause-goes
returns-clause-goes g c =
    let element = c.take_for-element.ensures in
    let fewer = row_fewer g.X.Keyed.is_key _ g.T.SizeFor.format_for g.met.T.SizeFor.lawful _ _ _ (some_left _ c.if-is_empty.ensures) c.self.invariant element.whole element.encoding in
    record { on = λ finite. (tt, finite, omega (arith, fewer, same_length c.self.view_is)); keeps = tt; rests = λ finite. tt }
