-- What is shown and what is left are the whole.
use Rattle.std.proofs.Common.{◌≡◌, ℕ, List, ◌++◌, flat_map, codes, string_bytes, drop}
use Rattle.tls_codec.specs.OwnMessages.{Tree, trees}
use Rattle.tlsview_run.specs.Texts.{parts}
use Rattle.tlsview_run.proofs.show.push_elements.Given as goal

-- the texts of the elements that are left, each after a comma
abbrev left_text : {T : Type 0} → (Tree → List ℕ) → (T → Tree) → List T → List ℕ
left_text text plain left = flat_map (λ v. codes "," ++ text v) (parts (trees plain left))

abbrev pub invariant-loop-element : goal.invariant-loop-element
invariant-loop-element g l =
    string_bytes l.initial.out ++ left_text g.T.Show.text g.T.Size.plain l.others
    ≡ string_bytes l.out ++ left_text g.T.Show.text g.T.Size.plain (drop l.element-index l.others)
