-- The laws of one case: its tag is there, is none above the greatest, and none of those that it avoids.
use Rattle.std.proofs.Common.{◌≡◌, ℕ, ◌≤◌, Bool, true, false, ◌||◌, refl}
use Rattle.std.specs.Prelude.{◌==◌, nat_le, not}
use Rattle.std.proofs.lemmas.Bool.{eq-eqb, leb-true, not-true, or_left}

pub case_known : (own : ℕ) → ((own == own) || false) ≡ true
case_known own = or_left (own == own) false (eq-eqb own own refl)

pub case_fits : (own most : ℕ) → nat_le own most ≡ true → own ≤ most
case_fits own most h = leb-true own most h

pub case_avoided : (own : ℕ) (p : ℕ → Bool) → not (p own) ≡ true → p own ≡ false
case_avoided own p h = not-true (p own) h
