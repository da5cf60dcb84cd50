-- SignatureTypeCertificateTimestamp: what it stands for, its format and its law.
use Rattle.std.proofs.Common.{arith}
use Rattle.std.specs.Prelude.{◌≡◌, ◌==◌, ℕ, Bool, true, refl, List, codes}
use Rattle.tls_codec.specs.OwnMessages.{Tree, Number, Empty, Join, Format, values_format, MeetsLaws, tagged_meets, values_meet}
use Rattle.ct.specs.declared.signature_type_certificate_timestamp.SignatureTypeCertificateTimestamp.{SignatureTypeCertificateTimestamp}

-- the number of each value
abbrev pub signature_type_certificate_timestamp_code : SignatureTypeCertificateTimestamp → ℕ
signature_type_certificate_timestamp_code v = 0

-- the name of each value
abbrev pub signature_type_certificate_timestamp_name : SignatureTypeCertificateTimestamp → List ℕ
signature_type_certificate_timestamp_name v = codes "certificate_timestamp"

-- whether a value has this number
abbrev pub signature_type_certificate_timestamp_has : ℕ → Bool
signature_type_certificate_timestamp_has n = n == 0

pub signature_type_certificate_timestamp_known : (v : SignatureTypeCertificateTimestamp)
    → signature_type_certificate_timestamp_has (signature_type_certificate_timestamp_code v) ≡ true
signature_type_certificate_timestamp_known v = refl

abbrev pub signature_type_certificate_timestamp_plain : SignatureTypeCertificateTimestamp → Tree
signature_type_certificate_timestamp_plain v = Join (Number (signature_type_certificate_timestamp_code v)) Empty

abbrev pub signature_type_certificate_timestamp_format : Format
signature_type_certificate_timestamp_format = values_format 1 signature_type_certificate_timestamp_has

pub signature_type_certificate_timestamp_meets : MeetsLaws signature_type_certificate_timestamp_format
signature_type_certificate_timestamp_meets = tagged_meets 1 (omega arith) (values_meet signature_type_certificate_timestamp_has)
