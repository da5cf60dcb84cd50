use Rattle.std.proofs.Common.{arith}
use Rattle.std.proofs.lemmas.Result.{err_from_is_err_and}
use Rattle.tls_codec_grammar.specs.Tree.{Tree}
use Rattle.tls_codec_grammar.specs.Format.{pair_format}
use Rattle.tls_codec_grammar.specs.laws.FormatLaws.{fields_meets, nothing_meets}
use Rattle.tls_codec_grammar.proofs.Sent.{sends_count}
use Rattle.tls_codec_base.proofs.FieldsEncoding.{fields_breaks_first, fields_breaks_others, fields_sends, nothing_sends}
use Rattle.tls_codec_base.proofs.ThenEncoding.{then_breaks, then_sends}
use Rattle.tls_codec_base.proofs.context.by_ref_then.ByRefThen2Serialize.tls_serialize.Goals as goal

pub returns-in_err-first-clause-writes : goal.returns-in_err-first-clause-writes
returns-in_err-first-clause-writes g c =
    let p = err_from_is_err_and c.from_residual.result c.from_residual.ensures.1 in
    let context = g.T.Size.plain c.args.self.now.first.now in
    let third = fields_meets (g.met.B.SizeFor.lawful context) nothing_meets in
    rw (p.1, p.2) (then_breaks g.T.Size.format (λ (u : Tree). pair_format (g.A.SizeFor.format_for u) (g.B.SizeFor.format_for u)) (fields_breaks_first g.met.T.Size.lawful (fields_meets (g.met.A.SizeFor.lawful context) third) c.in_err-first.ensures.writes))

pub returns-in_err-second-clause-writes : goal.returns-in_err-second-clause-writes
returns-in_err-second-clause-writes g c =
    let p = err_from_is_err_and c.from_residual-in_err-second.result c.from_residual-in_err-second.ensures.1 in
    let context = g.T.Size.plain c.args.self.now.first.now in
    let third = fields_meets (g.met.B.SizeFor.lawful context) nothing_meets in
    let second = g.met.A.SizeFor.lawful context in
    rw (p.1, p.2) (then_breaks g.T.Size.format (λ (u : Tree). pair_format (g.A.SizeFor.format_for u) (g.B.SizeFor.format_for u)) (fields_breaks_others g.met.T.Size.lawful (fields_meets second third) c.in_ok-first.ensures.writes (fields_breaks_first second third c.in_err-second.ensures.writes)))

pub returns-in_err-third-clause-writes : goal.returns-in_err-third-clause-writes
returns-in_err-third-clause-writes g c =
    let p = err_from_is_err_and c.from_residual-in_err-third.result c.from_residual-in_err-third.ensures.1 in
    let context = g.T.Size.plain c.args.self.now.first.now in
    let last = g.met.B.SizeFor.lawful context in
    let third = fields_meets last nothing_meets in
    let second = g.met.A.SizeFor.lawful context in
    rw (p.1, p.2) (then_breaks g.T.Size.format (λ (u : Tree). pair_format (g.A.SizeFor.format_for u) (g.B.SizeFor.format_for u)) (fields_breaks_others g.met.T.Size.lawful (fields_meets second third) c.in_ok-first.ensures.writes (fields_breaks_others second third c.in_ok-second.ensures.writes (fields_breaks_first last nothing_meets c.in_err-third.ensures.writes))))

pub returns-clause-writes : goal.returns-clause-writes
returns-clause-writes g c =
    let wrote = fields_sends c.in_ok-first.ensures.writes (fields_sends c.in_ok-second.ensures.writes (fields_sends c.in_ok-third.ensures.writes (nothing_sends _ _))) in
    sends_count (then_sends g.T.Size.format (λ (u : Tree). pair_format (g.A.SizeFor.format_for u) (g.B.SizeFor.format_for u)) wrote) (omega (arith, c.saturating_add.ensures, c.saturating_add-2.ensures))
