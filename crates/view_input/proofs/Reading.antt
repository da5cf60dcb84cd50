-- What an input gave.
use Rattle.std.proofs.Common.{ℕ, List, [], ◌++◌, Option, Some, None, ap, ◌∙◌, subst, append-nil, arith}
use Rattle.std.specs.Io.KnownBytes.{Consumes, IsAtEnd}
use Rattle.tls_codec.specs.Devices.{Counts, FaultRaises, Gives, GivesInOrder, Interrupted, OnlyInterrupted}
use Rattle.view_input.specs.Input.{IsWhole}

-- a source at its end gave all that was to come
pub all_given : (a b : Option (List ℕ)) (text : List ℕ) → Consumes a b text → IsAtEnd b → IsWhole a text
all_given None b text p e = tt
all_given (Some x) None text p e = absurd p
all_given (Some x) (Some y) text p e = p ∙ ap (λ l. text ++ l) e ∙ append-nil text

-- nothing more was given
pub gave_no_more : {S : Type 0} {given : Gives S} {a b c : S} {xs : List ℕ} → GivesInOrder given
    → given a xs b → given b [] c → given a xs c
gave_no_more {S} {given} {a} {b} {c} {xs} order p q =
    subst (λ (l : List ℕ). given a l c) (append-nil xs) (order a xs b [] c p q)

-- nothing but interruptions was counted, also if one was counted last
pub interrupted_again : {a b c : Counts} → OnlyInterrupted a b → FaultRaises Interrupted b c → OnlyInterrupted a c
interrupted_again {a} {b} {c} p q = record {
  failures = q.0 ∙ p.failures;
  interruptions = omega (arith, p.interruptions, q.1);
  shortages = q.2 ∙ p.shortages;
}
