use Rattle.tls_codec_views.proofs.InContext.{then_begins, then_left}
use Rattle.tls_codec_views.proofs.contexts.Encoded+Then+T+U.split.Goals as goal

pub take_keyed-first-requires : goal.take_keyed-first-requires
take_keyed-first-requires g c = then_begins g.T.Size.format g.U.SizeFor.format_for c.self.invariant

pub invariant_of-second : goal.invariant_of-second
invariant_of-second g c =
    let first = c.take_keyed-first.ensures in
    then_left g.T.Size.format g.U.SizeFor.format_for g.met.T.Size.lawful g.T.Keyed.is_key _ _ _ _ c.self.invariant first.whole first.encoding first.key
