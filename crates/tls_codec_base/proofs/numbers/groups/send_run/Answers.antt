use Rattle.std.proofs.Common.{ap, arith, rules}
use Rattle.std.proofs.lemmas.Result.{err_from_is_err_and}
use Rattle.tls_codec_grammar.specs.Tree.{Number, trees}
use Rattle.tls_codec_grammar.specs.laws.FormatLaws.{number_meets}
use Rattle.tls_codec_base.proofs.ListWriting.{first_breaks, sent_all, sent_first, trees_none}
use Rattle.tls_codec_base.proofs.numbers.groups.send_run.Goals as goal

pub returns-in_err-length : goal.returns-in_err-length
returns-in_err-length g c =
    let p = err_from_is_err_and c.from_residual.result c.from_residual.ensures.1 in
    let law = number_meets g.row.K (omega (arith, c.requires)) in
    rw (p.1, p.2) (first_breaks law _ _ _ c.loop-rest.invariant (ap (trees (λ x. Number (g.T.HasDigits.number x))) c.split_at.ensures.by_index.0) c.in_err-length.ensures)

pub loop-rest-preserved : goal.loop-rest-preserved
loop-rest-preserved g c =
    let law = number_meets g.row.K (omega (arith, c.requires)) in
    sent_first law _ _ _ c.loop-rest.invariant (ap (trees (λ x. Number (g.T.HasDigits.number x))) c.split_at.ensures.by_index.0) c.in_ok-length.ensures c.saturating_add-sent.ensures

pub returns : goal.returns
returns g c = sent_all c.loop-rest.invariant (trees_none _ _ (search rules))
