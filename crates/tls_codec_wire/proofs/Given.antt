-- What a source gives in two steps.
use Rattle.std.proofs.Common.{ℕ, List, ◌++◌}
use Rattle.tls_codec_wire.specs.Device.{Gives, GivesInOrder, Gave}

-- these bytes, and then those
pub gave_both : {S : Type 0} {given : Gives S} {a b c : S} {xs ys : List ℕ} → GivesInOrder given
    → given a xs b → given b ys c → Gave given a c
gave_both {S} {given} {a} {b} {c} {xs} {ys} order p q = record { bytes = xs ++ ys; held = order a xs b ys c p q }

-- these bytes, and then some
pub gave_on : {S : Type 0} {given : Gives S} {a b c : S} {xs : List ℕ} → GivesInOrder given
    → given a xs b → Gave given b c → Gave given a c
gave_on {S} {given} {a} {b} {c} {xs} order p q = record { bytes = xs ++ q.bytes; held = order a xs b q.bytes c p q.held }

-- some bytes, and then some
pub gave_then : {S : Type 0} {given : Gives S} {a b c : S} → GivesInOrder given
    → Gave given a b → Gave given b c → Gave given a c
gave_then {S} {given} {a} {b} {c} order p q = record { bytes = p.bytes ++ q.bytes; held = order a p.bytes b q.bytes c p.held q.held }
