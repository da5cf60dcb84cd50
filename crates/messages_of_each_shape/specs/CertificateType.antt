-- CertificateType: what it stands for, its format and its law.
use Rattle.std.proofs.Common.{arith}
use Rattle.std.specs.Prelude.{◌≡◌, ◌==◌, ◌||◌, ℕ, Bool, true, refl, List, codes}
use Rattle.tls_codec.specs.OwnMessages.{Tree, Number, Empty, Join, Format, values_format, MeetsLaws, tagged_meets, values_meet}
use Rattle.messages_of_each_shape.specs.declared.certificate_type.CertificateType.{CertificateType}
use Rattle.messages_of_each_shape.specs.declared.certificate_type.CertificateType.TheVariants.{X509, RawPublicKey}

-- the number of each value
abbrev pub certificate_type_code : CertificateType → ℕ
certificate_type_code X509 = 0
certificate_type_code RawPublicKey = 2

-- the name of each value
abbrev pub certificate_type_name : CertificateType → List ℕ
certificate_type_name X509 = codes "X509"
certificate_type_name RawPublicKey = codes "RawPublicKey"

-- whether a value has this number
abbrev pub certificate_type_has : ℕ → Bool
certificate_type_has n = (n == 0) || (n == 2)

pub certificate_type_known : (v : CertificateType) → certificate_type_has (certificate_type_code v) ≡ true
certificate_type_known X509 = refl
certificate_type_known RawPublicKey = refl

abbrev pub certificate_type_plain : CertificateType → Tree
certificate_type_plain v = Join (Number (certificate_type_code v)) Empty

abbrev pub certificate_type_format : Format
certificate_type_format = values_format 1 certificate_type_has

pub certificate_type_meets : MeetsLaws certificate_type_format
certificate_type_meets = tagged_meets 1 (omega arith) (values_meet certificate_type_has)

-- the number of a value, from what the value stands for
abbrev pub certificate_type_selected : Tree → ℕ
certificate_type_selected (Join (Number tag) vs) = tag
certificate_type_selected _ = 0
