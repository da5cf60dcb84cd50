use Rattle.std.proofs.Common.{arith, inl, inr, refl, true}
use Rattle.std.proofs.lemmas.Result.{err_from_is_err_and}
use Rattle.tls_codec_base.proofs.ListReading.{element_refused, found_empty, found_long, none_if_empty, none_if_long}
use Rattle.tls_codec_validate.proofs.Placing.{rejected_element, rejected_whole_element}
use Rattle.tls_codec_validate.proofs.Skipping.{skipped_all, skipped_more, skipped_none}
use Rattle.tls_codec_validate.proofs.Validating.{refuses, rejects_unless}
use Rattle.tls_codec_validate.proofs.elements.skip_elements.Goals as goal

pub loop-left-init : goal.loop-left-init
loop-left-init g c k is = skipped_none _ _ _

pub loop-left-preserved : goal.loop-left-preserved
loop-left-preserved g c k is =
    let taken = c.saturating_sub-taken.ensures in
    let some = rw taken at c.if-taken-eq0.false in
    rw taken (skipped_more (c.loop-left.invariant k is) (c.in_ok-behind.ensures.validates k is) some (omega arith))

pub returns-in_err-behind-clause-validates : goal.returns-in_err-behind-clause-validates
returns-in_err-behind-clause-validates g c k is =
    let p = err_from_is_err_and c.from_residual.result c.from_residual.ensures.1 in
    let refused = c.in_err-behind.ensures.validates k is in
    rw (p.1, p.2) (rejects_unless refused.not_memory (element_refused _ _ (g.met.T.SizeFor.lawful k).spelled true _ _ _ _ _ _ (c.loop-left.invariant k is).read (omega arith) (refuses refused)))

pub returns-in_err-behind-clause-rejected : goal.returns-in_err-behind-clause-rejected
returns-in_err-behind-clause-rejected g c k is =
    let p = err_from_is_err_and c.from_residual.result c.from_residual.ensures.1 in
    let refused = c.in_err-behind.ensures.validates k is in
    rw (p.1, p.2) (rejected_element (g.T.SizeFor.format_for k) (c.loop-left.invariant k is).read (omega arith) (refuses refused) (c.in_err-behind.ensures.rejected k is))

pub returns-then-taken-eq0-clause-validates : goal.returns-then-taken-eq0-clause-validates
returns-then-taken-eq0-clause-validates g c k is = record {
  none = none_if_empty _ _ (g.met.T.SizeFor.lawful k).spelled _ _ _ _ _ _ _ (c.loop-left.invariant k is).read (omega arith) (c.in_ok-behind.ensures.validates k is).begins (rw c.saturating_sub-taken.ensures at c.if-taken-eq0.true);
  not_memory = λ out. absurd cc;
}

pub returns-then-taken-eq0-clause-rejected : goal.returns-then-taken-eq0-clause-rejected
returns-then-taken-eq0-clause-rejected g c k is =
    rejected_whole_element (g.T.SizeFor.format_for k) (c.loop-left.invariant k is).read (omega arith) refl
    (λ own. inr (inl (refl, found_empty (c.in_ok-behind.ensures.validates k is).begins (rw c.saturating_sub-taken.ensures at c.if-taken-eq0.true))))

pub returns-then-taken-left-clause-validates : goal.returns-then-taken-left-clause-validates
returns-then-taken-left-clause-validates g c k is = record {
  none = none_if_long _ _ (g.met.T.SizeFor.lawful k).spelled _ _ _ _ _ _ _ (c.loop-left.invariant k is).read (omega arith) (c.in_ok-behind.ensures.validates k is).begins (omega arith);
  not_memory = λ out. absurd cc;
}

pub returns-then-taken-left-clause-rejected : goal.returns-then-taken-left-clause-rejected
returns-then-taken-left-clause-rejected g c k is =
    rejected_whole_element (g.T.SizeFor.format_for k) (c.loop-left.invariant k is).read (omega arith) refl
    (λ own. inr (inr (inl (refl, found_long (c.in_ok-behind.ensures.validates k is).begins (omega arith)))))

pub returns-clause-validates : goal.returns-clause-validates
returns-clause-validates g c k is = skipped_all (c.loop-left.invariant k is) (omega arith)
