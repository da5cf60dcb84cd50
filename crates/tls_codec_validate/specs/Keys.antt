-- What is reported about bytes whose format a context decides. Only a key of the context is known.
use Rattle.std.specs.Prelude.{◌↔◌, ℕ, List, IfErr, Result, Ok, Err}
use Rattle.std.specs.Borrow.{Bor}
use Rattle.tls_codec_grammar.specs.Tree.{Tree}
use Rattle.tls_codec_grammar.specs.Grammar.{Grammar}
use Rattle.tls_codec_grammar.specs.Format.{Format}
use Rattle.tls_codec_grammar.specs.Decoding.{Begins}
use Rattle.tls_codec_base.specs.PartNames.{SliceNames}
use Rattle.tls_codec_base.specs.ContextNames.{then_names}
use Rattle.tls_codec_validate.specs.declared.rejected.Rejected.{Rejected}
use Rattle.tls_codec_validate.specs.Places.{PlacedNames, RejectedAt, SamePlaces}
use Rattle.tls_codec_validate.specs.Validated.{Rejects, Validates}

-- which keys what a value stands for has
abbrev pub KeyOf : Type 0 → Type 1
KeyOf K = K → Tree → Type 0

-- x begins with a spelling of a value that has this key, and leaves rest
pub record BeginsKeyed {K : Type 0} (spells : Grammar) (is_key : KeyOf K) (x : List ℕ) (key : K) (rest : List ℕ) : Type 0 where
  pub value : Tree
  pub begins : Begins spells x value rest
  pub keyed : is_key key value

-- the key of a value and what is left after it, or why there is none
abbrev pub ValidatesKeyed : {K : Type 0} → Format → KeyOf K → List ℕ → Result (K × Bor (List ℕ)) Rejected → Type 0
ValidatesKeyed f is_key x (Ok found) = BeginsKeyed f.spells is_key x found.0 found.1.now
ValidatesKeyed f is_key x (Err r) = Rejects f.spells x r.error

-- in each context that has the key, what is left after a spelling, or why there is none
abbrev pub ValidatesFor : {K : Type 0} → KeyOf K → K → (Tree → Format) → List ℕ → Result (Bor (List ℕ)) Rejected → Type 0
ValidatesFor is_key key format x result = (c : Tree) → is_key key c → Validates (format c) x result

abbrev pub RejectedFor : {K : Type 0} → KeyOf K → K → (Tree → SliceNames) → (Tree → PlacedNames) → List ℕ → Result (Bor (List ℕ)) Rejected → Type 0
RejectedFor is_key key names places x result = (c : Tree) → is_key key c → IfErr result (RejectedAt (names c) (places c) x)

-- the rejected field is in the first part, or after it in what its value decides
abbrev pub then_places : Format → PlacedNames → (Tree → PlacedNames) → PlacedNames
then_places first places others rest = then_names first (places rest) (λ v. others v rest)

-- in each context the same fields may be rejected
abbrev pub SamePlacesFor : (Tree → PlacedNames) → (Tree → PlacedNames) → Type 0
SamePlacesFor m n = (c : Tree) → SamePlaces (m c) (n c)

-- the same keys
abbrev pub SameKeys : {K : Type 0} → KeyOf K → KeyOf K → Type 0
SameKeys {K} m n = (key : K) (c : Tree) → m key c ↔ n key c
