-- What contracts see of the test devices.
use Rattle.std.specs.Prelude.{◌≡◌, ℕ, ◌+◌, ◌<◌, ◌≤◌, List, Vec, min, Result, Err, refl}
use Rattle.std.specs.declared.alloc.Global.{Global}
use Rattle.std.proofs.Common.{arith, ◌∙◌}
use Rattle.tls_codec.specs.Devices.{Counts, Fault, FaultRaises, Gives, GivesInOrder, GivesNothing, NoCountFalls, NoneFell, count_limit, none_fell_refl, none_fell_trans, raised}
use Rattle.tls_codec_vectors.specs.declared.drip.Drip.{Drip}
use Rattle.tls_codec_vectors.specs.declared.trickle.Trickle.{Trickle}
use Rattle.tls_codec_vectors.specs.declared.failing.Failing.{Failing}
use Rattle.tls_codec_vectors.specs.declared.failing.Plan.{Plan}

-- the bytes that a drip has left
abbrev pub bytes_left : Drip → List ℕ
bytes_left d = d.left.now

-- the vector of a trickle
abbrev pub vector_of : Trickle → Vec ℕ Global
vector_of t = t.out

-- the bytes in it
abbrev pub bytes_taken : Trickle → List ℕ
bytes_taken t = t.out.items

-- ---- a device with some calls that fail

abbrev pub inner_of : {D : Type 0} → Failing D → D
inner_of f = f.inner

abbrev pub plan_of : {D : Type 0} → Failing D → Plan
plan_of f = f.plan

-- the number of the last call
abbrev pub calls_of : {D : Type 0} → Failing D → ℕ
calls_of f = f.calls

-- the counts of its own faults
abbrev pub own_counts : {D : Type 0} → Failing D → Counts
own_counts f = record { failures = f.failures; interruptions = f.interruptions; shortages = f.shortages }

-- two counts of one kind as one
abbrev pub together : ℕ → ℕ → ℕ
together a b = min (a + b) count_limit

-- its counts as a device: its own and those of the device inside
abbrev pub counts_with : {D : Type 0} → (D → Counts) → Failing D → Counts
counts_with counts f = record {
  failures = together f.failures (counts f.inner).failures;
  interruptions = together f.interruptions (counts f.inner).interruptions;
  shortages = together f.shortages (counts f.inner).shortages;
}

-- a call of this number fails
abbrev pub IsPlanned : Plan → ℕ → Type 0
IsPlanned plan call = (plan.at ≤ call) × (call < plan.at + plan.times)

-- the next call fails
abbrev pub FailsNext : {D : Type 0} → Failing D → Type 0
FailsNext f = IsPlanned f.plan (raised f.calls)

-- there was one call, and the plan is as it was
pub record Called {D : Type 0} (old new : Failing D) : Type 0 where
  pub number : new.calls ≡ raised old.calls
  pub plan : new.plan ≡ old.plan

-- the planned fault is returned, and counted as its own
abbrev pub FailsAsPlanned : {D A : Type 0} → Result A Fault → Failing D → Failing D → Type 0
FailsAsPlanned {D} {A} result old new = (result ≡ Err old.plan.fault) × FaultRaises old.plan.fault (own_counts old) (own_counts new)

-- the device inside gave these bytes, and nothing else happened but calls and faults
pub record GaveAfter {D : Type 0} (given : Gives D) (old : Failing D) (bytes : List ℕ) (new : Failing D) : Type 0 where
  pub held : given old.inner bytes new.inner
  pub plan : new.plan ≡ old.plan
  pub on : old.calls ≤ new.calls
  pub none_fell : NoneFell (own_counts old) (own_counts new)

-- ---- laws

pub gives_nothing_after : {D : Type 0} (given : Gives D) → GivesNothing given → GivesNothing (GaveAfter given)
gives_nothing_after {D} given nothing a = record { held = nothing a.inner; plan = refl; on = omega arith; none_fell = none_fell_refl (own_counts a) }

pub gives_in_order_after : {D : Type 0} (given : Gives D) → GivesInOrder given → GivesInOrder (GaveAfter given)
gives_in_order_after {D} given order a xs b ys c p q = record {
  held = order a.inner xs b.inner ys c.inner p.held q.held;
  plan = q.plan ∙ p.plan;
  on = omega (arith, p.on, q.on);
  none_fell = none_fell_trans p.none_fell q.none_fell;
}

-- counts that didn't fall, added to others that didn't fall
together_never_falls : {D : Type 0} (counts : D → Counts) (a b : Failing D) → NoneFell (own_counts a) (own_counts b)
    → NoneFell (counts a.inner) (counts b.inner) → NoneFell (counts_with counts a) (counts_with counts b)
together_never_falls {D} counts a b p q = record {
  failures = omega (arith, p.failures, q.failures);
  interruptions = omega (arith, p.interruptions, q.interruptions);
  shortages = omega (arith, p.shortages, q.shortages);
}

pub no_count_falls_after : {D : Type 0} (given : Gives D) (counts : D → Counts) → NoCountFalls given counts → NoCountFalls (GaveAfter given) (counts_with counts)
no_count_falls_after {D} given counts never a xs b p = together_never_falls counts a b p.none_fell (never a.inner xs b.inner p.held)
