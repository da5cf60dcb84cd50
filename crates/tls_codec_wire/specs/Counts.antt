-- How often a device failed, was interrupted and had no memory.
use Rattle.std.specs.Prelude.{◌≡◌, ◌⊎◌, ℕ, ◌+◌, ◌-◌, ◌^◌, ◌≤◌, min, max}
use Rattle.std.proofs.Common.{arith, refl, ◌∙◌}

-- the three counts of a device
pub record Counts : Type 0 where
  pub failures : ℕ
  pub interruptions : ℕ
  pub shortages : ℕ

-- a count stays at this number once it is there
abbrev pub count_limit : ℕ
count_limit = 2 ^ 64 - 1

-- a count after one event more
abbrev pub raised : ℕ → ℕ
raised n = max n (min (n + 1) count_limit)

-- a count rose by n at least, or is at its limit
abbrev pub RoseBy : ℕ → ℕ → ℕ → Type 0
RoseBy n old new = min (old + n) count_limit ≤ new

-- no count fell
pub record NoneFell (old new : Counts) : Type 0 where
  pub failures : old.failures ≤ new.failures
  pub interruptions : old.interruptions ≤ new.interruptions
  pub shortages : old.shortages ≤ new.shortages

-- nothing was counted but interruptions
pub record OnlyInterrupted (old new : Counts) : Type 0 where
  pub failures : new.failures ≡ old.failures
  pub interruptions : old.interruptions ≤ new.interruptions
  pub shortages : new.shortages ≡ old.shortages

-- a fault of the device was counted: failures rose by 1, or interruptions by 17, one more than are tried again
abbrev pub FaultIsCounted : Counts → Counts → Type 0
FaultIsCounted old new =
    RoseBy 1 old.failures new.failures ⊎ RoseBy 17 old.interruptions new.interruptions

-- the counts of a device that counted nothing
abbrev pub no_counts : Counts
no_counts = record { failures = 0; interruptions = 0; shortages = 0 }

-- the counts of a device that promises nothing of memory, and else never fails
abbrev pub only_shortages : Counts
only_shortages = record { failures = 0; interruptions = 0; shortages = count_limit }

-- ---- laws

pub none_fell_refl : (a : Counts) → NoneFell a a
none_fell_refl a = record { failures = omega arith; interruptions = omega arith; shortages = omega arith }

pub none_fell_trans : {a b c : Counts} → NoneFell a b → NoneFell b c → NoneFell a c
none_fell_trans {a} {b} {c} p q = record {
  failures = omega (arith, p.failures, q.failures);
  interruptions = omega (arith, p.interruptions, q.interruptions);
  shortages = omega (arith, p.shortages, q.shortages);
}

pub only_interrupted_refl : (a : Counts) → OnlyInterrupted a a
only_interrupted_refl a = record { failures = refl; interruptions = omega arith; shortages = refl }

pub only_interrupted_trans : {a b c : Counts} → OnlyInterrupted a b → OnlyInterrupted b c → OnlyInterrupted a c
only_interrupted_trans {a} {b} {c} p q = record {
  failures = q.failures ∙ p.failures;
  interruptions = omega (arith, p.interruptions, q.interruptions);
  shortages = q.shortages ∙ p.shortages;
}

pub only_interrupted_none_fell : {a b : Counts} → OnlyInterrupted a b → NoneFell a b
only_interrupted_none_fell {a} {b} p = record {
  failures = omega (arith, p.failures);
  interruptions = p.interruptions;
  shortages = omega (arith, p.shortages);
}
