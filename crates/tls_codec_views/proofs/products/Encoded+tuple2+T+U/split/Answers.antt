use Rattle.tls_codec_views.proofs.Parts.{second_left}
use Rattle.tls_codec_views.proofs.products.Encoded+tuple2+T+U.split.Goals as goal

pub invariant_of-second : goal.invariant_of-second
invariant_of-second g c =
    let first = c.take-first.ensures in
    second_left g.T.Size.format.spells g.U.Size.format.spells g.met.T.Size.lawful.spelled _ _ _ c.self.invariant first.whole first.encoding
