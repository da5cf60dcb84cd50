-- What a byte vector ends as, if a `&mut` to one of its bytes is returned.
use Rattle.std.specs.Prelude.{ℕ}
use Rattle.std.specs.Borrow.{Lends, Fml, RattleType, MutBor, u8}
use Rattle.std.specs.Vec.{with_item}
use Rattle.tls_codec_bytes.specs.declared.bytes.TlsByteVec.{TlsByteVec}
use Rattle.tls_codec_bytes.specs.contracts.bytes.TlsByteVec.{the_row}

-- v after `v[i] = w`
abbrev pub with_byte : {F : Type 0} → TlsByteVec F → ℕ → ℕ → TlsByteVec F
with_byte v i w = record v { vec = with_item v.vec i w }

-- once the borrow r ends, the place has the last value written through r
abbrev pub lends_byte : (F : RattleType) → MutBor (TlsByteVec F.Denot) → ℕ → MutBor ℕ → Fml
lends_byte F v i r = Lends (the_row F) u8 v r (with_byte v.now i)
