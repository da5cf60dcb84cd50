use Rattle.std.proofs.Common.{◌<◌, arith}
use Rattle.tls_codec_grammar.specs.Tagged.{no_format}
use Rattle.tls_codec_base.specs.TaggedNames.{no_variant_source_names}
use Rattle.tls_codec_cases.proofs.Parts.{past, source_names_past, unknown_leaves, unknown_named}
use Rattle.tls_codec_cases.proofs.other.read_other.Goals as goal

pub returns-then-tag-greatest-clause-reads : goal.returns-then-tag-greatest-clause-reads
returns-then-tag-greatest-clause-reads g c =
    let is = c.unknown_value.ensures in
    let more : g.U.Tag.most < c.args.tag = omega arith in
    let other = past c.args.tag g.U.Tag.most g.T.Size.format no_format more in
    rw other (rw is (unknown_leaves c.args.tag g.met.R.Source.gives_nothing))

pub returns-then-tag-greatest-clause-named : goal.returns-then-tag-greatest-clause-named
returns-then-tag-greatest-clause-named g c =
    let is = c.unknown_value.ensures in
    let more : g.U.Tag.most < c.args.tag = omega arith in
    let other = past c.args.tag g.U.Tag.most g.T.Size.format no_format more in
    let names = source_names_past c.args.tag g.U.Tag.most g.T.Deserialize.names (no_variant_source_names c.args.tag) more in
    rw other (rw names (rw is (unknown_named c.args.tag g.met.R.Source.gives_nothing)))
