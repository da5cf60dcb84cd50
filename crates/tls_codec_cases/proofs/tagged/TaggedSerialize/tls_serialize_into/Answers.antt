use Rattle.std.proofs.Common.{rules, ◌≡◌, ◌&&◌, true}
use Rattle.std.proofs.lemmas.Bool.{not-false}
use Rattle.tls_codec_base.proofs.TaggedEncoding.{tagged_appends}
use Rattle.tls_codec_cases.proofs.tagged.TaggedSerialize.tls_serialize_into.Goals as goal

pub returns-clause-appends : goal.returns-clause-appends
returns-clause-appends g c =
    let told : (g.C.Cases.distinct && g.C.Cases.within g.T.Tag.most) ≡ true = search (rules, not-false) in
    rw told (tagged_appends g.T.Tag.wide (g.C.Cases.tag_of c.args.self.now.0) g.met.C.Cases.meet _ _ _ _ c.append_tagged.ensures)
