-- KeyUpdateRequest: what it stands for, its format and its law.
use Rattle.std.proofs.Common.{arith}
use Rattle.std.specs.Prelude.{◌≡◌, ◌==◌, ◌||◌, ℕ, Bool, true, refl, List, codes}
use Rattle.tls_codec.specs.OwnMessages.{Tree, Number, Empty, Join, Format, values_format, MeetsLaws, tagged_meets, values_meet}
use Rattle.tls13.specs.declared.key_update_request.KeyUpdateRequest.{KeyUpdateRequest}
use Rattle.tls13.specs.declared.key_update_request.KeyUpdateRequest.TheVariants.{UpdateNotRequested, UpdateRequested}

-- the number of each value
abbrev pub key_update_request_code : KeyUpdateRequest → ℕ
key_update_request_code UpdateNotRequested = 0
key_update_request_code UpdateRequested = 1

-- the name of each value
abbrev pub key_update_request_name : KeyUpdateRequest → List ℕ
key_update_request_name UpdateNotRequested = codes "update_not_requested"
key_update_request_name UpdateRequested = codes "update_requested"

-- whether a value has this number
abbrev pub key_update_request_has : ℕ → Bool
key_update_request_has n = (n == 0) || (n == 1)

pub key_update_request_known : (v : KeyUpdateRequest) → key_update_request_has (key_update_request_code v) ≡ true
key_update_request_known UpdateNotRequested = refl
key_update_request_known UpdateRequested = refl

abbrev pub key_update_request_plain : KeyUpdateRequest → Tree
key_update_request_plain v = Join (Number (key_update_request_code v)) Empty

abbrev pub key_update_request_format : Format
key_update_request_format = values_format 1 key_update_request_has

pub key_update_request_meets : MeetsLaws key_update_request_format
key_update_request_meets = tagged_meets 1 (omega arith) (values_meet key_update_request_has)
