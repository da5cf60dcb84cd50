-- What contracts see of a number below 2 ^ 62.
use Rattle.std.specs.Prelude.{ℕ}
use Rattle.tls_codec_wire.specs.declared.varint.TlsVarInt.{TlsVarInt}

-- the number
abbrev pub number_of : TlsVarInt → ℕ
number_of n = n.number
