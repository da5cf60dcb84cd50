-- What contracts see of a number of 24 bits.
use Rattle.std.specs.Prelude.{ℕ}
use Rattle.tls_codec_wire.specs.declared.uint24.U24.{U24}

-- the number
abbrev pub number_of : U24 → ℕ
number_of n = n.number
