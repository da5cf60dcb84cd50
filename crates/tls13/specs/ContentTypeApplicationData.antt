-- ContentTypeApplicationData: what it stands for, its format and its law.
use Rattle.std.proofs.Common.{arith}
use Rattle.std.specs.Prelude.{◌≡◌, ◌==◌, ℕ, Bool, true, refl, List, codes}
use Rattle.tls_codec.specs.OwnMessages.{Tree, Number, Empty, Join, Format, values_format, MeetsLaws, tagged_meets, values_meet}
use Rattle.tls13.specs.declared.content_type_application_data.ContentTypeApplicationData.{ContentTypeApplicationData}

-- the number of each value
abbrev pub content_type_application_data_code : ContentTypeApplicationData → ℕ
content_type_application_data_code v = 23

-- the name of each value
abbrev pub content_type_application_data_name : ContentTypeApplicationData → List ℕ
content_type_application_data_name v = codes "application_data"

-- whether a value has this number
abbrev pub content_type_application_data_has : ℕ → Bool
content_type_application_data_has n = n == 23

pub content_type_application_data_known : (v : ContentTypeApplicationData)
    → content_type_application_data_has (content_type_application_data_code v) ≡ true
content_type_application_data_known v = refl

abbrev pub content_type_application_data_plain : ContentTypeApplicationData → Tree
content_type_application_data_plain v = Join (Number (content_type_application_data_code v)) Empty

abbrev pub content_type_application_data_format : Format
content_type_application_data_format = values_format 1 content_type_application_data_has

pub content_type_application_data_meets : MeetsLaws content_type_application_data_format
content_type_application_data_meets = tagged_meets 1 (omega arith) (values_meet content_type_application_data_has)
