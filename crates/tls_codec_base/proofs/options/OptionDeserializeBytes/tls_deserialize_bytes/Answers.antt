use Rattle.std.proofs.Common.{rules, ℕ, ◌≢◌, ◌∷◌, [], ap, arith, inl, inr, refl}
use Rattle.std.proofs.lemmas.Result.{err_from_is_err_and}
use Rattle.tls_codec_base.proofs.OptionDecoding.{option_begins, option_refuses}
use Rattle.tls_codec_base.proofs.options.OptionDeserializeBytes.tls_deserialize_bytes.Goals as goal

pub returns-in_err-payload-in-1-clause-splits : goal.returns-in_err-payload-in-1-clause-splits
returns-in_err-payload-in-1-clause-splits g c =
    let p = err_from_is_err_and c.from_residual.result c.from_residual.ensures.1 in
    rw (p.1, p.2) (option_refuses _ _ _ _ _ _ c.in-Some.ensures.cases.0 c.in-1.is c.in_err-payload-in-1.ensures.splits)

pub returns-in_ok-payload-in-1-clause-splits : goal.returns-in_ok-payload-in-1-clause-splits
returns-in_ok-payload-in-1-clause-splits g c =
    option_begins _ _ _ _ _ _ c.in-Some.ensures.cases.0 c.in-1.is c.in_ok-payload-in-1.ensures.splits

pub returns-in_default-tag-clause-named : goal.returns-in_default-tag-clause-named
returns-in_default-tag-clause-named g c =
    let zero : c.in-Some.tag.now ≢ 0 = search rules in
    let one : c.in-Some.tag.now ≢ 1 = search rules in
    inr (inl (record { front = c.in-Some.tag.now ∷ []; rest = _; whole = c.in-Some.ensures.cases.0; is_front = (c.in-Some.tag.now, refl, omega (arith, zero, one)); named = refl }))

pub returns-in-0-clause-splits : goal.returns-in-0-clause-splits
returns-in-0-clause-splits g c =
    record { front = c.in-Some.tag.now ∷ []; whole = c.in-Some.ensures.cases.0; spelled = ap (λ (t : ℕ). t ∷ []) c.in-0.is }

pub returns-in_err-payload-in-1-clause-named : goal.returns-in_err-payload-in-1-clause-named
returns-in_err-payload-in-1-clause-named g c =
    let p = err_from_is_err_and c.from_residual.result c.from_residual.ensures.1 in
    let is_tag = ap (λ (t : ℕ). t ∷ []) c.in-1.is in
    let named = c.in_err-payload-in-1.ensures.named in
    rw (p.1, p.2) (inr (inr (record { front = _; rest = _; whole = c.in-Some.ensures.cases.0; is_front = is_tag; named = named })))
