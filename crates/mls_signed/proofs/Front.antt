-- The bytes that a buffer begins with, and what is said of them.
use Rattle.std.proofs.Common.{◌≡◌, ℕ, ◌+◌, List, ◌++◌, length, take, sym, ap, subst, ◌∙◌, length-append}
use Rattle.std.proofs.Math.Seq.{take-append_seam}
use Rattle.mls.specs.FramedContentTBS.{framed_content_tbs_format}
use Rattle.tls_codec_base.specs.PartNames.{SliceNames}
use Rattle.tls_codec_validate.specs.Places.{PlacedNames}
use Rattle.tls_codec_outcome.specs.declared.outcome.Outcome.{Outcome}
use Rattle.tls_codec_outcome.specs.Outcomes.{Decides, IsRejection, IsTaken}
use Rattle.mls_signed.specs.Signed.{SaysOf}

-- three pieces that are put one after another, and taken again
pub front_is : (x y z a b c rest front : List ℕ) (n : ℕ) → x ≡ a → y ≡ b → z ≡ c → length a ≡ 4 → n ≡ 4 + length (b ++ c) → front ≡ take n ((x ++ (y ++ z)) ++ rest) → front ≡ a ++ (b ++ c)
front_is x y z a b c rest front n p q r four size is =
    let all : n ≡ length (a ++ (b ++ c)) = size ∙ sym (length-append a (b ++ c) ∙ ap (λ (k : ℕ). k + length (b ++ c)) four) in
    is ∙ rw (p, q, r, all) (take-append_seam (a ++ (b ++ c)) rest)

-- what is said of bytes is said of equal ones
pub says_of_same : (names : SliceNames) (places : PlacedNames) {x y : List ℕ} {said : Outcome} → x ≡ y → Decides framed_content_tbs_format x said.status → IsTaken framed_content_tbs_format x said.status said.taken → IsRejection names places x said.status said.at said.detail → SaysOf names places y said
says_of_same names places {x} {y} {said} is p q r = subst (λ (u : List ℕ). SaysOf names places u said) is (record { status = p; taken = q; rejected = r })
