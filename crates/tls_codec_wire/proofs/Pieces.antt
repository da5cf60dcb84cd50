-- What a sink has received of a piece, call by call.
use Rattle.std.proofs.Common.{ℕ, ◌+◌, ◌-◌, List, ◌++◌, length, take, drop, sym, ap, ◌∙◌, take-append-drop, Option, subst, take-add}
use Rattle.std.proofs.lemmas.List.{take_rest}
use Rattle.std.specs.Io.KnownBytes.{Appends}
use Rattle.std.proofs.KnownBytes.{Appends-trans}
use Rattle.tls_codec_wire.specs.Device.{Received}

-- a call that moves k bytes of what comes after the first n leaves a longer prefix
pub appends_more : (a b c : Option (List ℕ)) (n k : ℕ) (bytes : List ℕ)
    → Appends a b (take n bytes) → Appends b c (take k (take (length bytes - n) (drop n bytes)))
    → Appends a c (take (n + k) bytes)
appends_more a b c n k bytes p q =
    subst (Appends a c)
    (ap (λ xs. take n bytes ++ take k xs) (take_rest bytes n) ∙ sym (take-add n k bytes))
    (Appends-trans a b c (take n bytes) _ p q)

-- so the sink has received a prefix
pub received_more : (a b c : Option (List ℕ)) (n k : ℕ) (bytes : List ℕ)
    → Appends a b (take n bytes) → Appends b c (take k (take (length bytes - n) (drop n bytes)))
    → Received a c bytes
received_more a b c n k bytes p q = record {
  front = take (n + k) bytes;
  held = appends_more a b c n k bytes p q;
  beginning = (drop (n + k) bytes, sym (take-append-drop (n + k) bytes));
}
