use Rattle.std.proofs.Common.{rules, refl, inl, inr}
use Rattle.std.proofs.lemmas.Result.{err_from_is_err_and}
use Rattle.tls_codec_grammar.proofs.CountedDecoding.{count_refuses}
use Rattle.tls_codec_base.proofs.Enclosing.{enclosed_begins, enclosed_behind, enclosed_cut, enclosed_left, enclosed_refused, left_inside, split_whole}
use Rattle.tls_codec_base.proofs.context.enclosed.split_enclosed.Goals as goal

pub returns-in_err-length-clause-splits : goal.returns-in_err-length-clause-splits
returns-in_err-length-clause-splits g c =
    let p = err_from_is_err_and c.from_residual.result c.from_residual.ensures.1 in
    rw (p.1, p.2) (count_refuses g.met.F.LengthField.lawful _ _ _ c.in_err-length.ensures.err)

pub returns-in_err-length-clause-named : goal.returns-in_err-length-clause-named
returns-in_err-length-clause-named g c =
    let p = err_from_is_err_and c.from_residual.result c.from_residual.ensures.1 in
    rw (p.1, p.2) (inl c.in_err-length.ensures.err)

pub returns-then-behind-length-clause-splits : goal.returns-then-behind-length-clause-splits
returns-then-behind-length-clause-splits g c =
    let lawful = g.met.T.SizeFor.lawful (g.C.Size.plain c.args.context.now) in
    enclosed_cut g.met.F.LengthField.lawful lawful c.in_ok-length.ensures.ok c.if-behind-length.true c.cut_off.ensures

pub returns-then-behind-length-clause-named : goal.returns-then-behind-length-clause-named
returns-then-behind-length-clause-named g c =
    let context = g.C.Size.plain c.args.context.now in
    enclosed_behind g.F.LengthField.field (g.T.SizeFor.format_for context) (g.T.DeserializeBytesFor.names context) c.in_ok-length.ensures.ok (inl (c.if-behind-length.true, c.cut_off.ensures))

pub returns-in_err-value-clause-splits : goal.returns-in_err-value-clause-splits
returns-in_err-value-clause-splits g c =
    let p = err_from_is_err_and c.from_residual-in_err-value.result c.from_residual-in_err-value.ensures.1 in
    let lawful = g.met.T.SizeFor.lawful (g.C.Size.plain c.args.context.now) in
    let whole = split_whole _ c.split_at.ensures.front c.split_at.ensures.back in
    rw (p.1, p.2) (enclosed_refused g.met.F.LengthField.lawful lawful _ c.in_ok-length.ensures.ok whole c.split_at.ensures.front_len c.in_err-value.ensures.splits)

pub returns-in_err-value-clause-named : goal.returns-in_err-value-clause-named
returns-in_err-value-clause-named g c =
    let p = err_from_is_err_and c.from_residual-in_err-value.result c.from_residual-in_err-value.ensures.1 in
    let context = g.C.Size.plain c.args.context.now in
    let named = rw c.split_at.ensures.front at c.in_err-value.ensures.named in
    rw (p.1, p.2) (enclosed_behind g.F.LengthField.field (g.T.SizeFor.format_for context) (g.T.DeserializeBytesFor.names context) c.in_ok-length.ensures.ok (inr (inl named)))

pub returns-then-not-is_empty-clause-splits : goal.returns-then-not-is_empty-clause-splits
returns-then-not-is_empty-clause-splits g c =
    let lawful = g.met.T.SizeFor.lawful (g.C.Size.plain c.args.context.now) in
    let whole = split_whole _ c.split_at.ensures.front c.split_at.ensures.back in
    enclosed_left g.met.F.LengthField.lawful lawful _ c.in_ok-length.ensures.ok whole c.split_at.ensures.front_len c.in_ok-value.ensures.splits (λ empty. search rules)

pub returns-then-not-is_empty-clause-named : goal.returns-then-not-is_empty-clause-named
returns-then-not-is_empty-clause-named g c =
    let whole = split_whole _ c.split_at.ensures.front c.split_at.ensures.back in
    let context = g.C.Size.plain c.args.context.now in
    let left = left_inside _ whole c.split_at.ensures.front_len c.in_ok-value.ensures.splits (λ empty. search rules) in
    enclosed_behind g.F.LengthField.field (g.T.SizeFor.format_for context) (g.T.DeserializeBytesFor.names context) c.in_ok-length.ensures.ok (inr (inr (refl, left)))

pub returns-clause-splits : goal.returns-clause-splits
returns-clause-splits g c =
    let lawful = g.met.T.SizeFor.lawful (g.C.Size.plain c.args.context.now) in
    let whole = split_whole _ c.split_at.ensures.front c.split_at.ensures.back in
    enclosed_begins g.met.F.LengthField.lawful lawful c.in_ok-length.ensures.ok whole c.split_at.ensures.front_len c.in_ok-value.ensures.splits (search rules)
