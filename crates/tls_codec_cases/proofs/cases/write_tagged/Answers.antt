use Rattle.std.proofs.Common.{arith}
use Rattle.std.proofs.lemmas.Result.{err_from_is_err_and}
use Rattle.tls_codec_grammar.specs.laws.FormatLaws.{number_meets}
use Rattle.tls_codec_grammar.proofs.Sent.{sends_count}
use Rattle.tls_codec_base.proofs.FieldsEncoding.{fields_breaks_first, fields_breaks_others, fields_sends}
use Rattle.tls_codec_cases.proofs.cases.write_tagged.Goals as goal

pub write_tag-requires : goal.write_tag-requires
write_tag-requires g c = rw c.tag.ensures (g.met.C.Cases.fits g.T.Tag.most c.args.cases.now c.requires.within)

pub returns-in_err-first : goal.returns-in_err-first
returns-in_err-first g c =
    let p = err_from_is_err_and c.from_residual.result c.from_residual.ensures.1 in
    rw (p.1, p.2) (fields_breaks_first (number_meets g.T.Tag.wide g.met.T.Tag.small) (g.met.C.Cases.meet.parts _) (rw c.tag.ensures at c.in_err-first.ensures))

pub returns-in_err-second : goal.returns-in_err-second
returns-in_err-second g c =
    let p = err_from_is_err_and c.from_residual-in_err-second.result c.from_residual-in_err-second.ensures.1 in
    rw (p.1, p.2) (fields_breaks_others (number_meets g.T.Tag.wide g.met.T.Tag.small) (g.met.C.Cases.meet.parts _) (rw c.tag.ensures at c.in_ok-first.ensures) c.in_err-second.ensures)

pub returns : goal.returns
returns g c = sends_count (fields_sends (rw c.tag.ensures at c.in_ok-first.ensures) c.in_ok-second.ensures) (omega (arith, c.saturating_add.ensures))
