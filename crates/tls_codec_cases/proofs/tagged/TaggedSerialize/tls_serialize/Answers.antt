use Rattle.std.proofs.Common.{rules, ◌≡◌, ◌&&◌, true, false}
use Rattle.std.proofs.lemmas.Bool.{not-false, not-true}
use Rattle.tls_codec_base.proofs.TaggedEncoding.{tagged_writes}
use Rattle.tls_codec_cases.proofs.Ambiguous.{refused_breaks}
use Rattle.tls_codec_cases.proofs.tagged.TaggedSerialize.tls_serialize.Goals as goal

pub returns-then-not-tags_are_valid-clause-writes : goal.returns-then-not-tags_are_valid-clause-writes
returns-then-not-tags_are_valid-clause-writes g c =
    let told : (g.C.Cases.distinct && g.C.Cases.within g.T.Tag.most) ≡ false = search (rules, not-true) in
    let is = c.unknown_value.ensures in
    rw told (rw is (refused_breaks _ _ _))

pub returns-clause-writes : goal.returns-clause-writes
returns-clause-writes g c =
    let told : (g.C.Cases.distinct && g.C.Cases.within g.T.Tag.most) ≡ true = search (rules, not-false) in
    rw told (tagged_writes g.T.Tag.wide (g.C.Cases.tag_of c.args.self.now.0) g.met.C.Cases.meet _ _ _ _ _ c.write_tagged.ensures)
