use Rattle.std.proofs.Common.{rules, ◌≡◌, ◌&&◌, true, false, refl}
use Rattle.std.proofs.lemmas.Bool.{not-false, not-true}
use Rattle.tls_codec_grammar.specs.laws.FormatLaws.{number_meets}
use Rattle.tls_codec_base.proofs.TaggedDecoding.{tag_named_source, tag_reads, tagged_given, tagged_named_source, tagged_reads}
use Rattle.tls_codec_cases.proofs.Ambiguous.{refused_leaves, refused_named}
use Rattle.tls_codec_cases.proofs.tagged.TaggedDeserialize.tls_deserialize.Goals as goal

pub returns-then-not-tags_are_valid-clause-reads : goal.returns-then-not-tags_are_valid-clause-reads
returns-then-not-tags_are_valid-clause-reads g c =
    let told : (g.C.Cases.distinct && g.C.Cases.within g.T.Tag.most) ≡ false = search (rules, not-true) in
    let is = c.unknown_value.ensures in
    rw told (rw is (refused_leaves g.met.R.Source.gives_nothing))

pub returns-then-not-tags_are_valid-clause-named : goal.returns-then-not-tags_are_valid-clause-named
returns-then-not-tags_are_valid-clause-named g c =
    let told : (g.C.Cases.distinct && g.C.Cases.within g.T.Tag.most) ≡ false = search (rules, not-true) in
    let is = c.unknown_value.ensures in
    rw told (rw is (refused_named g.met.R.Source.gives_nothing))

pub returns-in_err-tag-clause-reads : goal.returns-in_err-tag-clause-reads
returns-in_err-tag-clause-reads g c =
    let told : (g.C.Cases.distinct && g.C.Cases.within g.T.Tag.most) ≡ true = search (rules, not-false) in
    rw told (tag_reads (number_meets g.T.Tag.wide g.met.T.Tag.small) g.met.C.Cases.meet _ _ _ _ _ c.from_residual.ensures.1 c.in_err-tag.ensures.reads)

pub returns-in_err-tag-clause-named : goal.returns-in_err-tag-clause-named
returns-in_err-tag-clause-named g c =
    let told : (g.C.Cases.distinct && g.C.Cases.within g.T.Tag.most) ≡ true = search (rules, not-false) in
    rw told (tag_named_source (number_meets g.T.Tag.wide g.met.T.Tag.small) g.met.C.Cases.meet _ _ _ _ _ c.from_residual.ensures.1 c.in_err-tag.ensures.named)

pub returns-in_err-cases-clause-reads : goal.returns-in_err-cases-clause-reads
returns-in_err-cases-clause-reads g c =
    let told : (g.C.Cases.distinct && g.C.Cases.within g.T.Tag.most) ≡ true = search (rules, not-false) in
    let source = g.met.R.Source in
    rw told (tagged_reads (number_meets g.T.Tag.wide g.met.T.Tag.small) g.met.C.Cases.meet _ _ _ _ _ source.gives_in_order source.no_count_falls c.from_residual-in_err-cases.ensures.1 c.in_ok-tag.ensures.reads refl c.in_err-cases.ensures.reads)

pub returns-in_err-cases-clause-named : goal.returns-in_err-cases-clause-named
returns-in_err-cases-clause-named g c =
    let told : (g.C.Cases.distinct && g.C.Cases.within g.T.Tag.most) ≡ true = search (rules, not-false) in
    let source = g.met.R.Source in
    rw told (tagged_named_source (number_meets g.T.Tag.wide g.met.T.Tag.small) g.met.C.Cases.meet _ _ _ _ _ source.gives_in_order source.no_count_falls c.from_residual-in_err-cases.ensures.1 c.in_ok-tag.ensures.reads refl c.in_err-cases.ensures.named)

pub returns-clause-reads : goal.returns-clause-reads
returns-clause-reads g c =
    let told : (g.C.Cases.distinct && g.C.Cases.within g.T.Tag.most) ≡ true = search (rules, not-false) in
    let source = g.met.R.Source in
    rw told (rw c.in_ok-cases.ensures.reads.0 (tagged_given (number_meets g.T.Tag.wide g.met.T.Tag.small) g.met.C.Cases.meet source.gives_in_order c.in_ok-tag.ensures.reads refl c.in_ok-cases.ensures.reads.1))
