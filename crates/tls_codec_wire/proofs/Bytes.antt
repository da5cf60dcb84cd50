-- Lists whose elements are all known to be bytes.
use Rattle.std.proofs.Common.{ℕ, suc, ◌<◌, List, [], ◌∷◌, ◌++◌, get_or}
use Rattle.tls_codec_wire.specs.Digits.{AreBytes}

pub are_bytes : (b : List ℕ) → ((i : ℕ) → get_or b i 0 < 256) → AreBytes b
are_bytes [] small = tt
are_bytes (b ∷ bs) small = (small 0, are_bytes bs (λ i. small (suc i)))

-- a prefix of bytes
pub AreBytes-left : (a b : List ℕ) → AreBytes (a ++ b) → AreBytes a
AreBytes-left [] b h = tt
AreBytes-left (x ∷ xs) b h = (h.0, AreBytes-left xs b h.1)
