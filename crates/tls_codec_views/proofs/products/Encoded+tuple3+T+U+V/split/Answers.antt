use Rattle.tls_codec_grammar.specs.Grammar.{fields, nothing, pair}
use Rattle.tls_codec_views.proofs.Parts.{first_begins, others_left, second_left}
use Rattle.tls_codec_views.proofs.products.Encoded+tuple3+T+U+V.split.Goals as goal

pub take-second-requires : goal.take-second-requires
take-second-requires g c =
    let first = c.take-first.ensures in
    let others = others_left g.T.Size.format.spells (pair g.U.Size.format.spells g.V.Size.format.spells) g.met.T.Size.lawful.spelled _ _ _ c.self.invariant first.whole first.encoding in
    first_begins g.U.Size.format.spells (fields g.V.Size.format.spells nothing) others

pub invariant_of-third : goal.invariant_of-third
invariant_of-third g c =
    let first = c.take-first.ensures in
    let second = c.take-second.ensures in
    let others = others_left g.T.Size.format.spells (pair g.U.Size.format.spells g.V.Size.format.spells) g.met.T.Size.lawful.spelled _ _ _ c.self.invariant first.whole first.encoding in
    second_left g.U.Size.format.spells g.V.Size.format.spells g.met.U.Size.lawful.spelled _ _ _ others second.whole second.encoding
