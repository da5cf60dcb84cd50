use Rattle.tls_codec_grammar.specs.Tagged.{no_format}
use Rattle.tls_codec_base.specs.TaggedNames.{no_variant_source_names}
use Rattle.tls_codec_cases.proofs.Parts.{at_other, source_names_at_other, unknown_leaves, unknown_named}
use Rattle.tls_codec_cases.proofs.case.CaseReadCases.read_parts.Goals as goal

pub returns-then-tag-clause-reads : goal.returns-then-tag-clause-reads
returns-then-tag-clause-reads g c =
    let is = c.unknown_value.ensures in
    let other = at_other c.args.tag g.row.TAG g.A.Size.format no_format c.if-tag.true in
    rw other (rw is (unknown_leaves c.args.tag g.met.R.Source.gives_nothing))

pub returns-then-tag-clause-named : goal.returns-then-tag-clause-named
returns-then-tag-clause-named g c =
    let is = c.unknown_value.ensures in
    let other = at_other c.args.tag g.row.TAG g.A.Size.format no_format c.if-tag.true in
    let names = source_names_at_other c.args.tag g.row.TAG g.A.Deserialize.names (no_variant_source_names c.args.tag) c.if-tag.true in
    rw other (rw names (rw is (unknown_named c.args.tag g.met.R.Source.gives_nothing)))
