use Rattle.std.proofs.Common.{inl, inr, refl}
use Rattle.tls_codec_base.proofs.TextDecoding.{invalid_refuses, text_begin, text_refuses}
use Rattle.tls_codec_validate.proofs.Placing.{rejected_here}
use Rattle.tls_codec_validate.proofs.Validating.{leaves, rejects, rejects_unless}
use Rattle.tls_codec_validate.proofs.texts.StringValidate.tls_validate_prefix.Goals as goal

pub returns-in-Err-clause-validates : goal.returns-in-Err-clause-validates
returns-in-Err-clause-validates c =
    let r = rejects c.in-Err.ensures.splits in
    rejects_unless r.not_memory (text_refuses c.in-Err.ensures.splits)

pub returns-in-Err-clause-rejected : goal.returns-in-Err-clause-rejected
returns-in-Err-clause-rejected c = rejected_here refl (inr (inl c.in-Err.ensures.named))

pub returns-in_default-clause-validates : goal.returns-in_default-clause-validates
returns-in_default-clause-validates c =
    rejects_unless (λ out. absurd cc) (invalid_refuses (record { content = _; rest = _; begins = c.in-Ok.ensures.splits; invalid = c.in_default.ensures.cases.0 }))

pub returns-in_default-clause-rejected : goal.returns-in_default-clause-rejected
returns-in_default-clause-rejected c =
    rejected_here refl (inr (inr (refl, record { content = _; rest = _; begins = c.in-Ok.ensures.splits; invalid = c.in_default.ensures.cases.0 })))

pub returns-clause-validates : goal.returns-clause-validates
returns-clause-validates c = leaves (text_begin c.in-Ok-from_utf8.ensures.cases.1 c.in-Ok.ensures.splits)
