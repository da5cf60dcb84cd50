use Rattle.std.proofs.lemmas.Result.{err_from_is_err_and}
use Rattle.tls_codec_grammar.specs.Format.{fields_format, nothing_format}
use Rattle.tls_codec_base.proofs.FieldsDecoding.{fields_given, fields_leaves_first, fields_leaves_others, fields_named_first, fields_named_others, last_named, nothing_given}
use Rattle.tls_codec_base.proofs.context.pairs.Tuple2DeserializeFor.tls_deserialize_for.Goals as goal

pub returns-in_err-first-clause-reads : goal.returns-in_err-first-clause-reads
returns-in_err-first-clause-reads g c =
    let p = err_from_is_err_and c.from_residual.result c.from_residual.ensures.1 in
    rw (p.1, p.2) (fields_leaves_first (fields_format (g.U.SizeFor.format_for (g.C.Size.plain c.args.context.now)) nothing_format) c.in_err-first.ensures.reads)

pub returns-in_err-first-clause-named : goal.returns-in_err-first-clause-named
returns-in_err-first-clause-named g c =
    let p = err_from_is_err_and c.from_residual.result c.from_residual.ensures.1 in
    let context = g.C.Size.plain c.args.context.now in
    rw (p.1, p.2) (fields_named_first (fields_format (g.U.SizeFor.format_for context) nothing_format) (g.T.DeserializeFor.names context) (g.U.DeserializeFor.names context) c.in_err-first.ensures.named)

pub returns-in_err-second-clause-reads : goal.returns-in_err-second-clause-reads
returns-in_err-second-clause-reads g c =
    let source = g.met.R.Source in
    let p = err_from_is_err_and c.from_residual-in_err-second.result c.from_residual-in_err-second.ensures.1 in
    let context = g.C.Size.plain c.args.context.now in
    rw (p.1, p.2) (fields_leaves_others (fields_format (g.U.SizeFor.format_for context) nothing_format) source.gives_in_order source.no_count_falls (g.met.T.SizeFor.lawful context) c.in_ok-first.ensures.reads (fields_leaves_first nothing_format c.in_err-second.ensures.reads))

pub returns-in_err-second-clause-named : goal.returns-in_err-second-clause-named
returns-in_err-second-clause-named g c =
    let source = g.met.R.Source in
    let p = err_from_is_err_and c.from_residual-in_err-second.result c.from_residual-in_err-second.ensures.1 in
    let context = g.C.Size.plain c.args.context.now in
    let names = g.U.DeserializeFor.names context in
    rw (p.1, p.2) (fields_named_others (fields_format (g.U.SizeFor.format_for context) nothing_format) (g.T.DeserializeFor.names context) names source.gives_in_order source.no_count_falls (g.met.T.SizeFor.lawful context) c.in_ok-first.ensures.reads (last_named names c.in_err-second.ensures.named))

pub returns-clause-reads : goal.returns-clause-reads
returns-clause-reads g c =
    let source = g.met.R.Source in
    fields_given source.gives_in_order c.in_ok-first.ensures.reads (fields_given source.gives_in_order c.in_ok-second.ensures.reads (nothing_given source.gives_nothing _))
