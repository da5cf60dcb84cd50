use Rattle.std.proofs.Common.{rules, arith, ap, subst, refl, ◌∙◌, List, [], ◌++◌, length-append, append_assoc, ℕ, ◌+◌, ◌*◌, ◌-◌, ◌<◌, ◌≤◌, ◌≡◌, Ok, Result}
use Rattle.tls_codec_wire.specs.Device.{Came, Gives, GivesInOrder, PulledOnto, count_moved}
use Rattle.tls_codec_wire.specs.declared.device.Fault.{Fault}
use Rattle.tls_codec_wire.specs.Counts.{only_interrupted_refl}
use Rattle.std.proofs.lemmas.List.{nil_from_length}
use Rattle.std.proofs.lemmas.Result.{err_from_is_err_and}
use Rattle.tls_codec_wire.proofs.Seen.{ended, fault_refuses, not_gathered, refused_now}
use Rattle.tls_codec_wire.proofs.gather.gather.Goals as goal

pub returns-in_err-reserve_exact-clause-refused : goal.returns-in_err-reserve_exact-clause-refused
returns-in_err-reserve_exact-clause-refused g c =
    let p = err_from_is_err_and c.from_residual.result c.from_residual.ensures.1 in
    rw (p.1, p.2) (refused_now _ g.met.R.Source.gives_nothing c.loop-came.invariant.came.held (λ rest. tt))

pub returns-in-Ok-eq0-clause-refused : goal.returns-in-Ok-eq0-clause-refused
returns-in-Ok-eq0-clause-refused g c =
    let source = g.met.R.Source in
    let pulled = c.in-Ok-eq0.ensures.gave in
    let none = nil_from_length pulled.bytes (pulled.count ∙ c.in-Ok-eq0.field-0-test) in
    ended _ _ source.gives_nothing source.gives_in_order c.loop-came.invariant.came.held (subst (λ (u : List ℕ). g.R.Source.given c.loop-came.src u c.pull_onto.new.self) none pulled.held)
    (c.in-Ok-eq0.ensures.end (ap Ok c.in-Ok-eq0.field-0-test) (search rules) (search rules)) (search rules)

pub returns-in_err-retries-in-Err-clause-refused : goal.returns-in_err-retries-in-Err-clause-refused
returns-in_err-retries-in-Err-clause-refused g c =
    let source = g.met.R.Source in
    let p = err_from_is_err_and c.from_residual-in_err-retries-in-Err.result c.from_residual-in_err-retries-in-Err.ensures.1 in
    rw (p.1, p.2) (refused_now _ source.gives_nothing (source.gives_in_order _ _ _ _ _ c.loop-came.invariant.came.held c.pull_onto.ensures.gave.held)
    (λ rest. not_gathered _ _ _ _ _ (fault_refuses _ _ _ _ _ c.in-Err.fault _ _ _ refl c.loop-came.invariant.counted c.loop-came.invariant.retried c.in-Err.ensures.counted c.in_err-retries-in-Err.ensures.err)))

-- what a call moved comes after what the calls before it moved
pulled_then : {S : Type 0} {given : Gives S} {a b c : S} {m k : ℕ} {r : Result ℕ Fault} {us vs ws xs : List ℕ} → GivesInOrder given
    → PulledOnto given a b (Ok m) us vs → ws ≡ vs → PulledOnto given b c r ws xs → k ≡ m + count_moved r
    → PulledOnto given a c (Ok k) us xs
pulled_then {S} {given} {a} {b} {c} {m} {k} {r} {us} {vs} {ws} {xs} order p same q sum = record {
  bytes = p.bytes ++ q.bytes;
  held = order _ _ _ _ _ p.held q.held;
  appended = q.appended ∙ ap (λ ys. ys ++ q.bytes) (same ∙ p.appended) ∙ append_assoc us p.bytes q.bytes;
  count = omega (arith, length-append p.bytes q.bytes, p.count, q.count, sum);
}

-- bytes that came bring the end nearer
nearer : (len came n retries : ℕ) → (n ≡ 0 → ⊥) → came + n ≤ len → retries ≤ 16
    → 17 * (len - (came + n)) + (16 - 0) < 17 * (len - came) + (16 - retries)
nearer len came n retries some within few = omega arith

-- an interruption brings the end of its row nearer
nearer_in_row : (len came retries : ℕ) → retries < 16
    → 17 * (len - came) + (16 - (retries + 1)) < 17 * (len - came) + (16 - retries)
nearer_in_row len came retries few = omega arith

pub loop-came-init : goal.loop-came-init
loop-came-init g c = record {
  within = omega arith;
  retries = omega arith;
  came = record { bytes = []; held = g.met.R.Source.gives_nothing _; appended = search rules; count = refl };
  retried = only_interrupted_refl _;
  counted = omega arith;
  tried = omega arith;
  gathered = λ all. refl;
}

pub loop-came-preserved-in-Ok : goal.loop-came-preserved-in-Ok
loop-came-preserved-in-Ok g c = record {
  within = omega (arith, c.in-Ok.ensures.bound, c.min-step.ensures);
  retries = omega arith;
  came = pulled_then g.met.R.Source.gives_in_order c.loop-came.invariant.came (c.in_ok-reserve_exact.ensures.items) c.in-Ok.ensures.gave refl;
  retried = search rules;
  counted = omega (arith, c.loop-came.invariant.counted, c.in-Ok.ensures.counted.1);
  tried = omega (arith, c.loop-came.invariant.tried, c.loop-came.invariant.retries, c.in-Ok.ensures.counted.1);
  gathered = λ all. refl;
}

pub loop-came-smaller-in-Ok : goal.loop-came-smaller-in-Ok
loop-came-smaller-in-Ok g c =
    nearer _ _ _ _ c.in-Ok.n-test.1 (omega (arith, c.in-Ok.ensures.bound, c.min-step.ensures)) c.loop-came.invariant.retries

pub loop-came-preserved : goal.loop-came-preserved
loop-came-preserved g c = record {
  within = c.loop-came.invariant.within;
  retries = search rules;
  came = pulled_then g.met.R.Source.gives_in_order c.loop-came.invariant.came (c.in_ok-reserve_exact.ensures.items) c.in-Err.ensures.gave (omega arith);
  retried = search rules;
  counted = search rules;
  tried = search rules;
  gathered = λ all. absurd (omega arith);
}

-- the same, in the words of the contract
came_then : {S : Type 0} {given : Gives S} {a b c : S} {m : ℕ} {r : Result ℕ Fault} {us vs ws xs : List ℕ} → GivesInOrder given
    → PulledOnto given a b (Ok m) us vs → ws ≡ vs → PulledOnto given b c r ws xs → Came given a c us xs
came_then {S} {given} {a} {b} {c} {m} {r} {us} {vs} {ws} {xs} order p same q = record {
  bytes = p.bytes ++ q.bytes;
  held = order _ _ _ _ _ p.held q.held;
  appended = q.appended ∙ ap (λ ys. ys ++ q.bytes) (same ∙ p.appended) ∙ append_assoc us p.bytes q.bytes;
}

pub returns-in-Ok-eq0-clause-came : goal.returns-in-Ok-eq0-clause-came
returns-in-Ok-eq0-clause-came g c =
    came_then g.met.R.Source.gives_in_order c.loop-came.invariant.came c.in_ok-reserve_exact.ensures.items c.in-Ok-eq0.ensures.gave

pub returns-in_err-retries-in-Err-clause-came : goal.returns-in_err-retries-in-Err-clause-came
returns-in_err-retries-in-Err-clause-came g c =
    came_then g.met.R.Source.gives_in_order c.loop-came.invariant.came c.in_ok-reserve_exact.ensures.items c.in-Err.ensures.gave

pub returns-clause-tried : goal.returns-clause-tried
returns-clause-tried g c =
    omega (arith, c.loop-came.invariant.tried, c.loop-came.invariant.within, c.loop-came.invariant.gathered (omega (arith, c.loop-came-test.false)))
