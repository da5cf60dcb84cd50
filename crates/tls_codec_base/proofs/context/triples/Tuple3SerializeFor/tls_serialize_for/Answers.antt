use Rattle.std.proofs.Common.{arith}
use Rattle.std.proofs.lemmas.Result.{err_from_is_err_and}
use Rattle.tls_codec_grammar.specs.laws.FormatLaws.{fields_meets, nothing_meets}
use Rattle.tls_codec_base.proofs.FieldsEncoding.{fields_breaks_first, fields_breaks_others, fields_sends, nothing_sends}
use Rattle.tls_codec_grammar.proofs.Sent.{sends_count}
use Rattle.tls_codec_base.proofs.context.triples.Tuple3SerializeFor.tls_serialize_for.Goals as goal

pub returns-in_err-first : goal.returns-in_err-first
returns-in_err-first g c =
    let context = g.C.Size.plain c.args.context.now in
    let last = fields_meets (g.met.V.SizeFor.lawful context) nothing_meets in
    let p = err_from_is_err_and c.from_residual.result c.from_residual.ensures.1 in
    record { writes = rw (p.1, p.2) (fields_breaks_first (g.met.T.SizeFor.lawful context) (fields_meets (g.met.U.SizeFor.lawful context) last) c.in_err-first.ensures.writes) }

pub returns-in_err-second : goal.returns-in_err-second
returns-in_err-second g c =
    let context = g.C.Size.plain c.args.context.now in
    let last = fields_meets (g.met.V.SizeFor.lawful context) nothing_meets in
    let p = err_from_is_err_and c.from_residual-in_err-second.result c.from_residual-in_err-second.ensures.1 in
    record { writes = rw (p.1, p.2) (fields_breaks_others (g.met.T.SizeFor.lawful context) (fields_meets (g.met.U.SizeFor.lawful context) last) c.in_ok-first.ensures.writes (fields_breaks_first (g.met.U.SizeFor.lawful context) last c.in_err-second.ensures.writes)) }

pub returns-in_err-third : goal.returns-in_err-third
returns-in_err-third g c =
    let context = g.C.Size.plain c.args.context.now in
    let last = fields_meets (g.met.V.SizeFor.lawful context) nothing_meets in
    let p = err_from_is_err_and c.from_residual-in_err-third.result c.from_residual-in_err-third.ensures.1 in
    record { writes = rw (p.1, p.2) (fields_breaks_others (g.met.T.SizeFor.lawful context) (fields_meets (g.met.U.SizeFor.lawful context) last) c.in_ok-first.ensures.writes (fields_breaks_others (g.met.U.SizeFor.lawful context) last c.in_ok-second.ensures.writes (fields_breaks_first (g.met.V.SizeFor.lawful context) nothing_meets c.in_err-third.ensures.writes))) }

pub returns : goal.returns
returns g c =
    record { writes = sends_count (fields_sends c.in_ok-first.ensures.writes (fields_sends c.in_ok-second.ensures.writes (fields_sends c.in_ok-third.ensures.writes (nothing_sends _ _)))) (omega (arith, c.saturating_add.ensures, c.saturating_add-2.ensures)) }
