use Rattle.std.proofs.Common.{length, ap, arith}
use Rattle.tls_codec_validate.proofs.Validating.{some_left}
use Rattle.tls_codec_views.proofs.Parts.{element_begins, elements_fewer, elements_left}
use Rattle.tls_codec_views.proofs.elements.ElementsIterator.next.Goals as goal

pub take-element-requires : goal.take-element-requires
take-element-requires g c = element_begins g.T.Size.format.spells _ (some_left _ c.if-is_empty.ensures) c.self.invariant

pub invariant_of-self : goal.invariant_of-self
invariant_of-self g c =
    let element = c.take-element.ensures in
    elements_left g.T.Size.format.spells g.met.T.Size.lawful.spelled _ _ _ c.self.invariant element.whole element.encoding

pub returns-clause-goes : goal.returns-clause-goes
returns-clause-goes g c =
    let element = c.take-element.ensures in
    let fewer = elements_fewer g.T.Size.format.spells g.met.T.Size.lawful.spelled _ _ _ (some_left _ c.if-is_empty.ensures) c.self.invariant element.whole element.encoding in
    record { on = λ finite. (tt, finite, omega (arith, fewer, ap length c.self.view_is)); keeps = tt; rests = λ finite. tt }
