use Rattle.std.proofs.Common.{rules, ◌≡◌, ◌&&◌, true, refl}
use Rattle.std.proofs.lemmas.Bool.{not-false}
use Rattle.tls_codec_grammar.specs.laws.FormatLaws.{number_meets}
use Rattle.tls_codec_base.proofs.TaggedDecoding.{tagged_begins, tagged_splits}
use Rattle.tls_codec_cases.proofs.tagged.TaggedDeserializeBytes.tls_deserialize_bytes.Goals as goal

pub returns-in_err-cases-clause-splits : goal.returns-in_err-cases-clause-splits
returns-in_err-cases-clause-splits g c =
    let told : (g.C.Cases.distinct && g.C.Cases.within g.T.Tag.most) ≡ true = search (rules, not-false) in
    rw told (tagged_splits (number_meets g.T.Tag.wide g.met.T.Tag.small) g.met.C.Cases.meet _ _ _ c.from_residual-in_err-cases.ensures.1 c.in_ok-tag.ensures.splits refl c.in_err-cases.ensures.splits)

pub returns-clause-splits : goal.returns-clause-splits
returns-clause-splits g c =
    let told : (g.C.Cases.distinct && g.C.Cases.within g.T.Tag.most) ≡ true = search (rules, not-false) in
    rw told (rw c.in_ok-cases.ensures.splits.0 (tagged_begins (number_meets g.T.Tag.wide g.met.T.Tag.small) g.met.C.Cases.meet c.in_ok-tag.ensures.splits refl c.in_ok-cases.ensures.splits.1))
