use Rattle.std.proofs.Common.{inl, inr, refl}
use Rattle.std.proofs.lemmas.Result.{err_from_is_err_and}
use Rattle.tls_codec_base.proofs.TextDecoding.{invalid_refuses, text_begin, text_refuses}
use Rattle.tls_codec_base.proofs.texts.StringDeserializeBytes.tls_deserialize_bytes.Goals as goal

pub returns-in_err-content-clause-splits : goal.returns-in_err-content-clause-splits
returns-in_err-content-clause-splits c =
    let p = err_from_is_err_and c.from_residual.result c.from_residual.ensures.1 in
    rw (p.1, p.2) (text_refuses c.in_err-content.ensures.splits)

pub returns-in_err-content-clause-named : goal.returns-in_err-content-clause-named
returns-in_err-content-clause-named c =
    let p = err_from_is_err_and c.from_residual.result c.from_residual.ensures.1 in
    rw (p.1, p.2) (inr (inl c.in_err-content.ensures.named))

pub returns-in_default-clause-splits : goal.returns-in_default-clause-splits
returns-in_default-clause-splits c =
    invalid_refuses (record { content = _; rest = _; begins = c.in_ok-content.ensures.splits; invalid = c.in_default.ensures.cases.0 })

pub returns-clause-splits : goal.returns-clause-splits
returns-clause-splits c =
    let cases = c.in-Ok.ensures.cases in
    rw (c.in_ok-owned.ensures.ok, cases.0) (text_begin cases.1 c.in_ok-content.ensures.splits)

pub returns-in_err-owned-clause-named : goal.returns-in_err-owned-clause-named
returns-in_err-owned-clause-named c =
    let p = err_from_is_err_and c.from_residual-in_err-owned.result c.from_residual-in_err-owned.ensures.1 in
    rw (p.1, p.2) (inl (refl, record { value = _; rest = _; begins = text_begin c.in-Ok.ensures.cases.1 c.in_ok-content.ensures.splits }))
