use Rattle.std.proofs.lemmas.Result.{err_from_is_err_and}
use Rattle.tls_codec_grammar.specs.Format.{fields_format, nothing_format}
use Rattle.tls_codec_base.proofs.FieldsDecoding.{fields_given, fields_leaves_first, fields_leaves_others, fields_named_first, fields_named_others, last_named, nothing_given}
use Rattle.tls_codec_base.specs.PartNames.{fields_source_names}
use Rattle.tls_codec_base.proofs.context.triples.Tuple3DeserializeFor.tls_deserialize_for.Goals as goal

pub returns-in_err-first-clause-reads : goal.returns-in_err-first-clause-reads
returns-in_err-first-clause-reads g c =
    let context = g.C.Size.plain c.args.context.now in
    let p = err_from_is_err_and c.from_residual.result c.from_residual.ensures.1 in
    rw (p.1, p.2) (fields_leaves_first (fields_format (g.U.SizeFor.format_for context) (fields_format (g.V.SizeFor.format_for context) nothing_format)) c.in_err-first.ensures.reads)

pub returns-in_err-second-clause-reads : goal.returns-in_err-second-clause-reads
returns-in_err-second-clause-reads g c =
    let context = g.C.Size.plain c.args.context.now in
    let source = g.met.R.Source in
    let p = err_from_is_err_and c.from_residual-in_err-second.result c.from_residual-in_err-second.ensures.1 in
    rw (p.1, p.2) (fields_leaves_others (fields_format (g.U.SizeFor.format_for context) (fields_format (g.V.SizeFor.format_for context) nothing_format)) source.gives_in_order source.no_count_falls (g.met.T.SizeFor.lawful context) c.in_ok-first.ensures.reads (fields_leaves_first (fields_format (g.V.SizeFor.format_for context) nothing_format) c.in_err-second.ensures.reads))

pub returns-in_err-third-clause-reads : goal.returns-in_err-third-clause-reads
returns-in_err-third-clause-reads g c =
    let context = g.C.Size.plain c.args.context.now in
    let source = g.met.R.Source in
    let p = err_from_is_err_and c.from_residual-in_err-third.result c.from_residual-in_err-third.ensures.1 in
    rw (p.1, p.2) (fields_leaves_others (fields_format (g.U.SizeFor.format_for context) (fields_format (g.V.SizeFor.format_for context) nothing_format)) source.gives_in_order source.no_count_falls (g.met.T.SizeFor.lawful context) c.in_ok-first.ensures.reads (fields_leaves_others (fields_format (g.V.SizeFor.format_for context) nothing_format) source.gives_in_order source.no_count_falls (g.met.U.SizeFor.lawful context) c.in_ok-second.ensures.reads (fields_leaves_first nothing_format c.in_err-third.ensures.reads)))

pub returns-in_err-first-clause-named : goal.returns-in_err-first-clause-named
returns-in_err-first-clause-named g c =
    let context = g.C.Size.plain c.args.context.now in
    let p = err_from_is_err_and c.from_residual.result c.from_residual.ensures.1 in
    rw (p.1, p.2) (fields_named_first (fields_format (g.U.SizeFor.format_for context) (fields_format (g.V.SizeFor.format_for context) nothing_format)) (g.T.DeserializeFor.names context) (fields_source_names (g.U.SizeFor.format_for context) (g.U.DeserializeFor.names context) (g.V.DeserializeFor.names context)) c.in_err-first.ensures.named)

pub returns-in_err-second-clause-named : goal.returns-in_err-second-clause-named
returns-in_err-second-clause-named g c =
    let context = g.C.Size.plain c.args.context.now in
    let source = g.met.R.Source in
    let p = err_from_is_err_and c.from_residual-in_err-second.result c.from_residual-in_err-second.ensures.1 in
    let last = fields_format (g.V.SizeFor.format_for context) nothing_format in
    rw (p.1, p.2) (fields_named_others (fields_format (g.U.SizeFor.format_for context) last) (g.T.DeserializeFor.names context) (fields_source_names (g.U.SizeFor.format_for context) (g.U.DeserializeFor.names context) (g.V.DeserializeFor.names context)) source.gives_in_order source.no_count_falls (g.met.T.SizeFor.lawful context) c.in_ok-first.ensures.reads (fields_named_first last (g.U.DeserializeFor.names context) (g.V.DeserializeFor.names context) c.in_err-second.ensures.named))

pub returns-in_err-third-clause-named : goal.returns-in_err-third-clause-named
returns-in_err-third-clause-named g c =
    let context = g.C.Size.plain c.args.context.now in
    let source = g.met.R.Source in
    let p = err_from_is_err_and c.from_residual-in_err-third.result c.from_residual-in_err-third.ensures.1 in
    let last = fields_format (g.V.SizeFor.format_for context) nothing_format in
    let third = fields_named_others last (g.U.DeserializeFor.names context) (g.V.DeserializeFor.names context) source.gives_in_order source.no_count_falls (g.met.U.SizeFor.lawful context) c.in_ok-second.ensures.reads (last_named (g.V.DeserializeFor.names context) c.in_err-third.ensures.named) in
    rw (p.1, p.2) (fields_named_others (fields_format (g.U.SizeFor.format_for context) last) (g.T.DeserializeFor.names context) (fields_source_names (g.U.SizeFor.format_for context) (g.U.DeserializeFor.names context) (g.V.DeserializeFor.names context)) source.gives_in_order source.no_count_falls (g.met.T.SizeFor.lawful context) c.in_ok-first.ensures.reads third)

pub returns-clause-reads : goal.returns-clause-reads
returns-clause-reads g c =
    let source = g.met.R.Source in
    fields_given source.gives_in_order c.in_ok-first.ensures.reads (fields_given source.gives_in_order c.in_ok-second.ensures.reads (fields_given source.gives_in_order c.in_ok-third.ensures.reads (nothing_given source.gives_nothing _)))
