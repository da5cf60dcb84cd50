use Rattle.tls_codec_views.proofs.InContext.{pair_begins, pair_left}
use Rattle.tls_codec_views.proofs.contexts.EncodedFor+X+tuple2+T+U.split.Goals as goal

pub take_for-first-requires : goal.take_for-first-requires
take_for-first-requires g c = pair_begins g.X.Keyed.is_key _ g.T.SizeFor.format_for g.U.SizeFor.format_for c.self.invariant

pub invariant_of-second : goal.invariant_of-second
invariant_of-second g c =
    let first = c.take_for-first.ensures in
    pair_left g.X.Keyed.is_key _ g.T.SizeFor.format_for g.U.SizeFor.format_for g.met.T.SizeFor.lawful _ _ _ c.self.invariant first.whole first.encoding
