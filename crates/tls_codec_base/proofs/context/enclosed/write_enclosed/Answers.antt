use Rattle.std.proofs.Common.{arith}
use Rattle.std.proofs.lemmas.Result.{err_from_is_err_and}
use Rattle.tls_codec_grammar.specs.laws.InsideLaws.{enclosed_meets, inside_meets}
use Rattle.tls_codec_grammar.proofs.CountedEncoding.{field_breaks_count, field_breaks_inside, field_sends}
use Rattle.tls_codec_base.proofs.context.enclosed.write_enclosed.Goals as goal

pub returns-in_err-width : goal.returns-in_err-width
returns-in_err-width g c =
    let p = err_from_is_err_and c.from_residual.result c.from_residual.ensures.1 in
    let m = g.met.F.LengthField.lawful in
    let l = inside_meets (g.met.T.SizeFor.lawful (g.C.Size.plain c.args.context.now)) in
    let sent = c.write_length.ensures in
    let length = c.tls_serialized_len_for-length.ensures in
    record { writes = rw (p.1, p.2) (field_breaks_count m l _ (enclosed_meets m l) (omega (arith, length)) length sent.beginning (λ long. (sent.out_of_bounds long).1) c.in_err-width.ensures.refused sent.counts) }

pub returns-in_err-sent : goal.returns-in_err-sent
returns-in_err-sent g c =
    let p = err_from_is_err_and c.from_residual-in_err-sent.result c.from_residual-in_err-sent.ensures.1 in
    let l = inside_meets (g.met.T.SizeFor.lawful (g.C.Size.plain c.args.context.now)) in
    let length = c.tls_serialized_len_for-length.ensures in
    record { writes = rw (p.1, p.2) (field_breaks_inside g.met.F.LengthField.lawful l (omega (arith, length)) c.in_ok-width.ensures.ok c.write_length.ensures.counts c.in_err-sent.ensures.writes) }

pub returns : goal.returns
returns g c =
    let l = inside_meets (g.met.T.SizeFor.lawful (g.C.Size.plain c.args.context.now)) in
    let length = c.tls_serialized_len_for-length.ensures in
    record { writes = field_sends g.met.F.LengthField.lawful l (omega (arith, length)) c.in_ok-width.ensures.ok c.write_length.ensures.counts c.in_ok-sent.ensures.writes (omega (arith, c.saturating_add.ensures)) }
