-- A byte vector as a list of bytes.
use Rattle.std.specs.Prelude.{ℕ, List}
use Rattle.tls_codec_bytes.specs.declared.bytes.TlsByteVec.{TlsByteVec}

abbrev pub bytes_of : {F : Type 0} → TlsByteVec F → List ℕ
bytes_of v = v.vec.items
