use Rattle.std.proofs.Common.{◌≡◌, [], ◌∷◌, ℕ, inl, inr, refl, ap, length, arith}
use Rattle.tls_codec.specs.OwnMessages.{Number, Empty, Join}
use Rattle.tls_codec_vectors.proofs.laws.second_spelling_of_ping_is_unlawful.Goals as goal

pub returns : goal.returns
returns c = λ announced l.
    let same : 0 ∷ [] ≡ 3 ∷ 0 ∷ [] = l.alone (0 ∷ []) (3 ∷ 0 ∷ []) (Join (Number 0) Empty)
    (inl (record { front = 0 ∷ []; rest = []; whole = refl; first = record { width = refl; bytes = (omega arith, tt); number = refl }; second = refl }))
    (inr (refl, refl)) in
    let lengths : ◌≡◌ {A = ℕ} 1 2 = ap (length {A = ℕ}) same in
    absurd (omega (arith, lengths))
