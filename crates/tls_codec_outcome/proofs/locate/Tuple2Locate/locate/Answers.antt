use Rattle.std.proofs.Common.{ℕ, subst}
use Rattle.tls_codec_grammar.specs.Format.{fields_format, nothing_format}
use Rattle.tls_codec_outcome.proofs.FieldPlaces.{first_begins, others_begin_there}
use Rattle.tls_codec_outcome.proofs.locate.Tuple2Locate.locate.Goals as goal

pub returns-clause-places : goal.returns-clause-places
returns-clause-places g c at =
    let x = c.args.bytes.now in
    let begins = first_begins g.T.Locate.format (fields_format g.U.Locate.format nothing_format) x c.args.from at in
    let first = c.locate-first.ensures.places begins in
    let end = c.locate-first.ensures.end begins in
    let ends = g.met.T.Locate.ends x c.args.from c.locate-first.result.0 first in
    let next = first_begins g.U.Locate.format nothing_format x c.locate-first.result.1 (others_begin_there (fields_format g.U.Locate.format nothing_format) x c.args.from (g.T.Locate.end c.locate-first.result.0) c.locate-first.result.1 g.met.T.Locate.lawful at ends end) in
    (first, subst (λ (n : ℕ). g.U.Locate.are_places x n c.locate-second.result.0) end (c.locate-second.ensures.places next))

pub returns-clause-end : goal.returns-clause-end
returns-clause-end g c at =
    let x = c.args.bytes.now in
    let begins = first_begins g.T.Locate.format (fields_format g.U.Locate.format nothing_format) x c.args.from at in
    let first = c.locate-first.ensures.places begins in
    let ends = g.met.T.Locate.ends x c.args.from c.locate-first.result.0 first in
    c.locate-second.ensures.end (first_begins g.U.Locate.format nothing_format x c.locate-first.result.1 (others_begin_there (fields_format g.U.Locate.format nothing_format) x c.args.from (g.T.Locate.end c.locate-first.result.0) c.locate-first.result.1 g.met.T.Locate.lawful at ends (c.locate-first.ensures.end begins)))
