use Rattle.std.proofs.Common.{inl, inr, refl}
use Rattle.std.proofs.lemmas.Result.{err_from_is_err_and}
use Rattle.tls_codec_base.proofs.boxes.BoxDeserializeBytes.tls_deserialize_bytes.Goals as goal

pub returns-in_err-content-clause-splits : goal.returns-in_err-content-clause-splits
returns-in_err-content-clause-splits g c =
    let p = err_from_is_err_and c.from_residual.result c.from_residual.ensures.1 in
    rw (p.1, p.2) (record { cause = c.in_err-content.ensures.splits.cause; memory = λ h. refl })

pub returns-in_err-content-2-clause-splits : goal.returns-in_err-content-2-clause-splits
returns-in_err-content-2-clause-splits g c =
    let p = err_from_is_err_and c.from_residual-in_err-content-2.result c.from_residual-in_err-content-2.ensures.1 in
    rw (p.1, p.2) (record { cause = inr c.in_err-content-2.ensures.err; memory = λ h. refl })

pub returns-clause-splits : goal.returns-clause-splits
returns-clause-splits g c = rw c.in_ok-content-2.ensures.ok c.in_ok-content.ensures.splits

pub returns-in_err-content-clause-named : goal.returns-in_err-content-clause-named
returns-in_err-content-clause-named g c =
    let p = err_from_is_err_and c.from_residual.result c.from_residual.ensures.1 in
    rw (p.1, p.2) (inr c.in_err-content.ensures.named)

pub returns-in_err-content-2-clause-named : goal.returns-in_err-content-2-clause-named
returns-in_err-content-2-clause-named g c =
    let p = err_from_is_err_and c.from_residual-in_err-content-2.result c.from_residual-in_err-content-2.ensures.1 in
    let begun = c.in_ok-content.ensures.splits in
    rw (p.1, p.2) (inl (c.in_err-content-2.ensures.err, record { value = _; rest = _; begins = begun }))
