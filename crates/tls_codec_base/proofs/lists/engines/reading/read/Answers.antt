use Rattle.std.proofs.Common.{rules, ℕ, subst}
use Rattle.std.specs.Prelude.{IfErr}
use Rattle.tls_codec_wire.specs.Bounded.{inner_of}
use Rattle.tls_codec_grammar.specs.Format.{content_format, sized_format}
use Rattle.tls_codec_grammar.specs.Decoding.{Named}
use Rattle.tls_codec_base.specs.PartNames.{elements_source_names}
use Rattle.tls_codec_base.proofs.lists.engines.reading.read.Goals as goal

pub returns-clause-named : goal.returns-clause-named
returns-clause-named g c =
    let named = c.elements_within.ensures.named in
    let f = (g.K.ElementCoding.format c.args.coding.now) in
    let within = subst (λ (n : ℕ). IfErr c.elements_within.result (Named (sized_format n (content_format f)) (elements_source_names f (g.K.ElementReader.names c.args.coding.now) n) g.R.Source (inner_of c.new-within.result) (inner_of c.elements_within.new.within))) c.new-within.ensures.limit named in
    let moved = rw c.new-within.ensures.inner at within in
    let ends = λ (s : g.row.R.Denot). IfErr c.elements_within.result (Named (sized_format c.args.length (content_format f)) (elements_source_names f (g.K.ElementReader.names c.args.coding.now) c.args.length) g.R.Source c.args.src.now s) in
    subst ends (search rules) moved
