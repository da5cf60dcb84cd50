use Rattle.std.proofs.Common.{inr}
use Rattle.std.proofs.lemmas.Result.{err_from_is_err_and}
use Rattle.tls_codec_grammar.proofs.CountedDecoding.{count_refuses, counted_begins, counted_refuses}
use Rattle.tls_codec_base.proofs.counted.engines.split.Goals as goal

pub returns-in_err-length-clause-splits : goal.returns-in_err-length-clause-splits
returns-in_err-length-clause-splits g c =
    let p = err_from_is_err_and c.from_residual.result c.from_residual.ensures.1 in
    rw (p.1, p.2) (count_refuses g.met.F.LengthField.lawful _ _ _ c.in_err-length.ensures.err)

pub returns-in_err-elements-clause-splits : goal.returns-in_err-elements-clause-splits
returns-in_err-elements-clause-splits g c =
    let p = err_from_is_err_and c.from_residual-in_err-elements.result c.from_residual-in_err-elements.ensures.1 in
    rw (p.1, p.2) (counted_refuses g.met.F.LengthField.lawful _ c.in_ok-length.ensures.ok c.in_err-elements.ensures.splits)

pub returns-clause-splits : goal.returns-clause-splits
returns-clause-splits g c = counted_begins g.met.F.LengthField.lawful _ c.in_ok-length.ensures.ok c.in_ok-elements.ensures.splits

pub returns-in_err-elements-clause-named : goal.returns-in_err-elements-clause-named
returns-in_err-elements-clause-named g c =
    let p = err_from_is_err_and c.from_residual-in_err-elements.result c.from_residual-in_err-elements.ensures.1 in
    let read = c.in_ok-length.ensures.ok in
    rw (p.1, p.2) (inr (_, record { front = read.front; rest = _; whole = read.whole; is_front = read.spelled; named = c.in_err-elements.ensures.named }))
