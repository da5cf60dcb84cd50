use Rattle.tls_codec_views.proofs.InContext.{pair_begins, pair_left, triple_left}
use Rattle.tls_codec_views.proofs.contexts.EncodedFor+X+tuple3+T+U+V.split.Goals as goal

pub take_for-second-requires : goal.take_for-second-requires
take_for-second-requires g c =
    let first = c.take_for-first.ensures in
    pair_begins g.X.Keyed.is_key _ g.U.SizeFor.format_for g.V.SizeFor.format_for
    (triple_left g.X.Keyed.is_key _ g.T.SizeFor.format_for g.U.SizeFor.format_for g.V.SizeFor.format_for g.met.T.SizeFor.lawful _ _ _ c.self.invariant first.whole first.encoding)

pub invariant_of-third : goal.invariant_of-third
invariant_of-third g c =
    let first = c.take_for-first.ensures in
    let second = c.take_for-second.ensures in
    pair_left g.X.Keyed.is_key _ g.U.SizeFor.format_for g.V.SizeFor.format_for g.met.U.SizeFor.lawful _ _ _
    (triple_left g.X.Keyed.is_key _ g.T.SizeFor.format_for g.U.SizeFor.format_for g.V.SizeFor.format_for g.met.T.SizeFor.lawful _ _ _ c.self.invariant first.whole first.encoding)
    second.whole second.encoding
