-- Types by their names, and whether bytes begin with a message of one.
use Rattle.std.specs.Prelude.{◌≡◌, ℕ, cond, List, [], ◌∷◌, bytes_eq, Option, Some, None, Result}
use Rattle.std.specs.Borrow.{Bor}
use Rattle.tls_codec.specs.OwnMessages.{Format}
use Rattle.tls_codec_validate.specs.Validated.{Validates}
use Rattle.tls_codec_validate.specs.declared.rejected.Rejected.{Rejected}

-- a type's name, and its format
pub record Kind : Type 1 where
  pub name : List ℕ
  pub format : Format

abbrev pub kind : List ℕ → Format → Kind
kind name format = record { name = name; format = format }

-- something holds of the first of these types that has this name, or none has it and something else holds
abbrev pub FirstNamed : List Kind → List ℕ → (Kind → Type 0) → Type 0 → Type 0
FirstNamed [] name Holds Else = Else
FirstNamed (k ∷ ks) name Holds Else = cond (bytes_eq name k.name) (Holds k) (FirstNamed ks name Holds Else)

-- what is left after a message of this format, or that bytes begin with none
abbrev pub Checks : Format → List ℕ → Option (Result (Bor (List ℕ)) Rejected) → Type 0
Checks format bytes None = ⊥
Checks format bytes (Some checked) = Validates format bytes checked
