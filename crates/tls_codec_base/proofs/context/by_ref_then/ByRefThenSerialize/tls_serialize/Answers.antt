use Rattle.std.proofs.Common.{arith}
use Rattle.std.proofs.lemmas.Result.{err_from_is_err_and}
use Rattle.tls_codec_grammar.proofs.Sent.{sends_count}
use Rattle.tls_codec_base.proofs.FieldsEncoding.{fields_breaks_first, fields_breaks_others, fields_sends}
use Rattle.tls_codec_base.proofs.ThenEncoding.{then_breaks, then_sends}
use Rattle.tls_codec_base.proofs.context.by_ref_then.ByRefThenSerialize.tls_serialize.Goals as goal

pub returns-in_err-first-clause-writes : goal.returns-in_err-first-clause-writes
returns-in_err-first-clause-writes g c =
    let p = err_from_is_err_and c.from_residual.result c.from_residual.ensures.1 in
    let rest = g.met.U.SizeFor.lawful (g.T.Size.plain c.args.self.now.first.now) in
    rw (p.1, p.2) (then_breaks g.T.Size.format g.U.SizeFor.format_for (fields_breaks_first g.met.T.Size.lawful rest c.in_err-first.ensures.writes))

pub returns-in_err-rest-clause-writes : goal.returns-in_err-rest-clause-writes
returns-in_err-rest-clause-writes g c =
    let p = err_from_is_err_and c.from_residual-in_err-rest.result c.from_residual-in_err-rest.ensures.1 in
    let rest = g.met.U.SizeFor.lawful (g.T.Size.plain c.args.self.now.first.now) in
    rw (p.1, p.2) (then_breaks g.T.Size.format g.U.SizeFor.format_for (fields_breaks_others g.met.T.Size.lawful rest c.in_ok-first.ensures.writes c.in_err-rest.ensures.writes))

pub returns-clause-writes : goal.returns-clause-writes
returns-clause-writes g c = sends_count (then_sends g.T.Size.format g.U.SizeFor.format_for (fields_sends c.in_ok-first.ensures.writes c.in_ok-rest.ensures.writes)) (omega (arith, c.saturating_add.ensures))
