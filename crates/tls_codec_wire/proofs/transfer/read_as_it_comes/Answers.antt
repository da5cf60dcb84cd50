use Rattle.std.proofs.Common.{rules, arith, ap, length-take-le, take, refl, subst, ℕ, List, Ok}
use Rattle.tls_codec_wire.proofs.Bytes.{are_bytes}
use Rattle.tls_codec_wire.proofs.Filling.{take-put_mid_more, take-put_mid_same}
use Rattle.std.proofs.lemmas.Result.{err_from_is_err_and}
use Rattle.tls_codec_wire.proofs.Given.{gave_both}
use Rattle.tls_codec_wire.proofs.Seen.{ended, fault_refuses, refused_now}
use Rattle.tls_codec_wire.specs.Counts.{only_interrupted_refl}
use Rattle.tls_codec_wire.proofs.transfer.read_as_it_comes.Goals as goal

pub returns-in-Ok-eq0-clause-gave : goal.returns-in-Ok-eq0-clause-gave
returns-in-Ok-eq0-clause-gave g c =
    gave_both g.met.R.Source.gives_in_order c.loop-at.invariant.gave c.pull.ensures.gave

pub loop-at-preserved-in-Ok : goal.loop-at-preserved-in-Ok
loop-at-preserved-in-Ok g c = record {
  within = search rules;
  retries = search rules;
  gave = subst (λ (xs : List ℕ). g.R.Source.given c.args.src.now xs c.pull.new.self) (take-put_mid_more _ _ _ _ _ c.loop-at.invariant.within c.in-Ok.ensures.bound)
      (g.met.R.Source.gives_in_order _ _ _ _ _ c.loop-at.invariant.gave c.in-Ok.ensures.gave);
  retried = search rules;
  counted = omega (arith, c.loop-at.invariant.counted, c.in-Ok.ensures.counted.1);
  tried = omega (arith, c.loop-at.invariant.tried, c.loop-at.invariant.retries, c.in-Ok.ensures.counted.1);
  moved = λ all. refl;
  bytes = are_bytes _ (λ i. omega (arith, c.type_inv.into i));
  untouched = λ none. absurd (omega arith);
}

pub returns-in_err-retries-in-Err-clause-gave : goal.returns-in_err-retries-in-Err-clause-gave
returns-in_err-retries-in-Err-clause-gave g c =
    gave_both g.met.R.Source.gives_in_order c.loop-at.invariant.gave c.pull.ensures.gave

pub loop-at-preserved : goal.loop-at-preserved
loop-at-preserved g c =
    record {
      within = search rules;
      retries = search rules;
      gave = subst (λ (xs : List ℕ). g.R.Source.given c.args.src.now xs c.pull.new.self) (take-put_mid_same _ _ _ _ c.loop-at.invariant.within)
          (g.met.R.Source.gives_in_order _ _ _ _ _ c.loop-at.invariant.gave c.in-Err.ensures.gave);
      retried = search rules;
      counted = search rules;
      tried = search rules;
      moved = λ all. absurd (omega arith);
      bytes = are_bytes _ (λ i. omega (arith, c.type_inv.into i));
      untouched = λ none. absurd (omega arith);
    }

pub loop-at-init : goal.loop-at-init
loop-at-init g c = record {
  within = omega arith;
  retries = omega arith;
  gave = g.met.R.Source.gives_nothing _;
  retried = only_interrupted_refl _;
  counted = omega arith;
  tried = omega arith;
  moved = λ all. refl;
  bytes = are_bytes _ (λ i. omega (arith, c.type_inv.into i));
  untouched = λ none. refl;
}

pub returns-in-Ok-eq0-clause-refused : goal.returns-in-Ok-eq0-clause-refused
returns-in-Ok-eq0-clause-refused g c =
    let source = g.met.R.Source in
    let none = c.in-Ok-eq0.field-0-test in
    ended (take c.loop-at.at c.loop-at.into) _ source.gives_nothing source.gives_in_order c.loop-at.invariant.gave (subst (λ (k : ℕ). g.R.Source.given c.loop-at.src (take k c.pull.new.into) c.pull.new.self) none c.in-Ok-eq0.ensures.gave)
    (c.in-Ok-eq0.ensures.end (ap Ok none) (search rules)) (omega (arith, length-take-le c.loop-at.at c.loop-at.into c.loop-at.invariant.within, c.loop-at-test.true))

pub returns-in_err-retries-in-Err-clause-refused : goal.returns-in_err-retries-in-Err-clause-refused
returns-in_err-retries-in-Err-clause-refused g c =
    let source = g.met.R.Source in
    let before = c.loop-at.invariant in
    let p = err_from_is_err_and c.from_residual.result c.from_residual.ensures.1 in
    rw (p.1, p.2) (refused_now _ source.gives_nothing (source.gives_in_order _ _ _ _ _ before.gave c.pull.ensures.gave)
    (λ rest. fault_refuses _ _ _ _ _ c.in-Err.fault _ _ _ refl before.counted before.retried c.in-Err.ensures.counted c.in_err-retries-in-Err.ensures.err))

pub returns-clause-tried : goal.returns-clause-tried
returns-clause-tried g c =
    omega (arith, c.loop-at.invariant.tried, c.loop-at.invariant.within, c.loop-at.invariant.moved (omega (arith, c.loop-at-test.false)))
