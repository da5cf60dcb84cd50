-- ResumptionPSKUsage: what it stands for, its format and its law.
use Rattle.std.proofs.Common.{arith}
use Rattle.std.specs.Prelude.{◌≡◌, ◌==◌, ◌||◌, ℕ, Bool, true, refl, List, codes}
use Rattle.tls_codec.specs.OwnMessages.{Tree, Number, Empty, Join, Format, values_format, MeetsLaws, tagged_meets, values_meet}
use Rattle.mls_group.specs.declared.resumption_psk_usage.ResumptionPSKUsage.{ResumptionPSKUsage}
use Rattle.mls_group.specs.declared.resumption_psk_usage.ResumptionPSKUsage.TheVariants.{Application, Reinit, Branch}

-- the number of each value
abbrev pub resumption_psk_usage_code : ResumptionPSKUsage → ℕ
resumption_psk_usage_code Application = 1
resumption_psk_usage_code Reinit = 2
resumption_psk_usage_code Branch = 3

-- the name of each value
abbrev pub resumption_psk_usage_name : ResumptionPSKUsage → List ℕ
resumption_psk_usage_name Application = codes "application"
resumption_psk_usage_name Reinit = codes "reinit"
resumption_psk_usage_name Branch = codes "branch"

-- whether a value has this number
abbrev pub resumption_psk_usage_has : ℕ → Bool
resumption_psk_usage_has n = (n == 1) || ((n == 2) || (n == 3))

pub resumption_psk_usage_known : (v : ResumptionPSKUsage) → resumption_psk_usage_has (resumption_psk_usage_code v) ≡ true
resumption_psk_usage_known Application = refl
resumption_psk_usage_known Reinit = refl
resumption_psk_usage_known Branch = refl

abbrev pub resumption_psk_usage_plain : ResumptionPSKUsage → Tree
resumption_psk_usage_plain v = Join (Number (resumption_psk_usage_code v)) Empty

abbrev pub resumption_psk_usage_format : Format
resumption_psk_usage_format = values_format 1 resumption_psk_usage_has

pub resumption_psk_usage_meets : MeetsLaws resumption_psk_usage_format
resumption_psk_usage_meets = tagged_meets 1 (omega arith) (values_meet resumption_psk_usage_has)
