use Rattle.std.proofs.Common.{rules, ℕ, subst}
use Rattle.std.specs.Prelude.{IfErr}
use Rattle.tls_codec_wire.specs.Bounded.{inner_of}
use Rattle.tls_codec_grammar.specs.Format.{sized_format, with_memory}
use Rattle.tls_codec_grammar.specs.Decoding.{Named}
use Rattle.tls_codec_base.specs.ContextNames.{filling_source_names}
use Rattle.tls_codec_base.proofs.context.enclosed.read_filling.Goals as goal

pub returns-clause-named : goal.returns-clause-named
returns-clause-named g c =
    let named = c.filling_within.ensures.named in
    let context = g.C.Size.plain c.args.context.now in
    let f = g.T.SizeFor.format_for context in
    let names = g.T.DeserializeFor.names context in
    let within = subst (λ (n : ℕ). IfErr c.filling_within.result (Named (with_memory (sized_format n f)) (filling_source_names f names n) g.R.Source (inner_of c.new-within.result) (inner_of c.filling_within.new.within))) c.new-within.ensures.limit named in
    let moved = rw c.new-within.ensures.inner at within in
    let ends = λ (s : g.row.R.Denot). IfErr c.filling_within.result (Named (with_memory (sized_format c.args.length f)) (filling_source_names f names c.args.length) g.R.Source c.args.src.now s) in
    subst ends (search rules) moved
