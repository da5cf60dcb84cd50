-- LegacyCompressionMethodX00: what it stands for, its format and its law.
use Rattle.std.proofs.Common.{arith}
use Rattle.std.specs.Prelude.{◌≡◌, ◌==◌, ℕ, Bool, true, refl, List, codes}
use Rattle.tls_codec.specs.OwnMessages.{Tree, Number, Empty, Join, Format, values_format, MeetsLaws, tagged_meets, values_meet}
use Rattle.tls13.specs.declared.legacy_compression_method_x00.LegacyCompressionMethodX00.{LegacyCompressionMethodX00}

-- the number of each value
abbrev pub legacy_compression_method_x00_code : LegacyCompressionMethodX00 → ℕ
legacy_compression_method_x00_code v = 0

-- the name of each value
abbrev pub legacy_compression_method_x00_name : LegacyCompressionMethodX00 → List ℕ
legacy_compression_method_x00_name v = codes "0x00"

-- whether a value has this number
abbrev pub legacy_compression_method_x00_has : ℕ → Bool
legacy_compression_method_x00_has n = n == 0

pub legacy_compression_method_x00_known : (v : LegacyCompressionMethodX00)
    → legacy_compression_method_x00_has (legacy_compression_method_x00_code v) ≡ true
legacy_compression_method_x00_known v = refl

abbrev pub legacy_compression_method_x00_plain : LegacyCompressionMethodX00 → Tree
legacy_compression_method_x00_plain v = Join (Number (legacy_compression_method_x00_code v)) Empty

abbrev pub legacy_compression_method_x00_format : Format
legacy_compression_method_x00_format = values_format 1 legacy_compression_method_x00_has

pub legacy_compression_method_x00_meets : MeetsLaws legacy_compression_method_x00_format
legacy_compression_method_x00_meets = tagged_meets 1 (omega arith) (values_meet legacy_compression_method_x00_has)
