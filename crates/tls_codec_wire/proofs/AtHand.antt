-- What is at hand within a limit.
use Rattle.std.proofs.Common.{ℕ, ◌≤◌, List, ◌++◌, length, take, drop, Option, None, Some, sym, ap, ◌∙◌, take-append-drop, take-take}
use Rattle.std.specs.Prelude.{option_map}
use Rattle.std.proofs.lemmas.List.{take-append-le}
use Rattle.tls_codec_wire.specs.Device.{IsAtHand}

-- a prefix of what is at hand comes first of the first bytes, if it passes neither
pub at_hand_within : (coming : Option (List ℕ)) (bytes : List ℕ) (n limit : ℕ) → n ≤ limit → n ≤ length bytes
    → IsAtHand bytes coming → IsAtHand (take n bytes) (option_map (take limit) coming)
at_hand_within None bytes n limit below within h = tt
at_hand_within (Some xs) bytes n limit below within h = (
  drop n (take limit xs),
  sym (take-append-drop n (take limit xs))
      ∙ ap (λ u. u ++ drop n (take limit xs)) (take-take n limit xs below ∙ ap (take n) h.1 ∙ take-append-le n bytes h.0 within),
)
