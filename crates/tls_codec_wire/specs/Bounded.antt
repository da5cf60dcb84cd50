-- What contracts see of the first bytes of another source.
use Rattle.std.proofs.Common.{◌≡◌, ℕ, ◌+◌, List, ◌++◌, length, take, Option, None, Some, refl, ap, ◌∙◌, arith, length-append}
use Rattle.std.specs.Prelude.{option_map}
use Rattle.std.specs.Io.KnownBytes.{Consumes}
use Rattle.std.proofs.Math.Seq.{take-append-add}
use Rattle.tls_codec_wire.specs.declared.bounded.Bounded.{Bounded}
use Rattle.tls_codec_wire.specs.Device.{Gives, GivesFromFront, GivesInOrder, GivesNothing}

-- how many bytes may still be given
abbrev pub limit_of : {R : Type 0} → Bounded R → ℕ
limit_of b = b.limit

-- the inner source as it is
abbrev pub inner_of : {R : Type 0} → Bounded R → R
inner_of b = b.inner.now

-- two that borrow the same source
abbrev pub BorrowAlike : {R : Type 0} → Bounded R → Bounded R → Type 0
BorrowAlike a b = b.inner.ghost_name ≡ a.inner.ghost_name

-- the bytes to come are the first of the inner source's
abbrev pub first_bytes : {R : Type 0} → (R → Option (List ℕ)) → Bounded R → Option (List ℕ)
first_bytes coming b = option_map (take b.limit) (coming b.inner.now)

-- the inner source gave these bytes, and the limit fell by their number
pub record GaveWithin {R : Type 0} (given : Gives R) (old : Bounded R) (bytes : List ℕ) (new : Bounded R) : Type 0 where
  pub same : BorrowAlike old new
  pub fell : old.limit ≡ new.limit + length bytes
  pub held : given old.inner.now bytes new.inner.now

-- ---- laws

pub gives_nothing_within : {R : Type 0} (given : Gives R) → GivesNothing given → GivesNothing (GaveWithin given)
gives_nothing_within {R} given nothing a = record { same = refl; fell = omega arith; held = nothing a.inner.now }

pub gives_in_order_within : {R : Type 0} (given : Gives R) → GivesInOrder given → GivesInOrder (GaveWithin given)
gives_in_order_within {R} given order a xs b ys c p q = record {
  same = q.same ∙ p.same;
  fell = omega (arith, p.fell, q.fell, length-append xs ys);
  held = order a.inner.now xs b.inner.now ys c.inner.now p.held q.held;
}

-- what is given within a limit is the front of the first bytes
first_given : (old new : Option (List ℕ)) (bytes : List ℕ) (before after : ℕ) → before ≡ after + length bytes
    → Consumes old new bytes → Consumes (option_map (take before) old) (option_map (take after) new) bytes
first_given None new bytes before after e h = tt
first_given (Some xs) None bytes before after e h = h
first_given (Some xs) (Some ys) bytes before after e h =
    let n : before ≡ length bytes + after = omega (arith, e) in
    ap (take before) h ∙ ap (λ (k : ℕ). take k (bytes ++ ys)) n ∙ take-append-add bytes ys after

pub gives_from_front_within : {R : Type 0} (given : Gives R) (coming : R → Option (List ℕ)) → GivesFromFront given coming → GivesFromFront (GaveWithin given) (first_bytes coming)
gives_from_front_within {R} given coming front a xs b p =
    first_given (coming a.inner.now) (coming b.inner.now) xs a.limit b.limit p.fell (front a.inner.now xs b.inner.now p.held)
