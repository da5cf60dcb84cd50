-- What contracts see of a wrapped reader or writer.
use Rattle.std.proofs.Common.{◌≡◌, ℕ, ◌+◌, List, length, max, min, Option, arith, length-append}
use Rattle.std.proofs.KnownBytes.{Consumes-nil, Consumes-trans}
use Rattle.std.specs.Io.KnownBytes.{Consumes}
use Rattle.std.specs.declared.io.ErrorKind.{ErrorKind}
use Rattle.std.specs.declared.io.ErrorKind.TheVariants as kinds
use Rattle.tls_codec_wire.specs.Counts.{Counts, NoneFell, count_limit, none_fell_refl, none_fell_trans}
use Rattle.tls_codec_wire.specs.Device.{GivesInOrder, GivesNothing}
use Rattle.tls_codec_wire.specs.Digits.{AreBytes, bytes_in_order}
use Rattle.tls_codec_wire.specs.declared.device.Fault.{Fault}
use Rattle.tls_codec_wire.specs.declared.device.Fault.TheVariants.{Interrupted, NoMemory, Failed}
use Rattle.tls_codec_wire.specs.declared.outside.Outside.{Outside}

-- the reader or writer inside
abbrev pub wrapped : {X : Type 0} → Outside X → X
wrapped o = o.inner

-- its counts
abbrev pub counts_of : {X : Type 0} → Outside X → Counts
counts_of o = record { failures = o.failures; interruptions = o.interruptions; shortages = o.shortages }

-- how many bytes it gave or took
abbrev pub moved_of : {X : Type 0} → Outside X → ℕ
moved_of o = o.moved

-- n bytes more; the count stays at its limit
abbrev pub MovedBy : {X : Type 0} → ℕ → Outside X → Outside X → Type 0
MovedBy n old new = moved_of new ≡ max (moved_of old) (min (moved_of old + n) count_limit)

-- it gave these bytes: the reader lost them, if it reports its bytes, and they were counted
pub record GaveOutside {R : Type 0} (remaining : R → Option (List ℕ)) (old : Outside R) (bytes : List ℕ) (new : Outside R) : Type 0 where
  pub consumed : Consumes (remaining (wrapped old)) (remaining (wrapped new)) bytes
  pub fell : NoneFell (counts_of old) (counts_of new)
  pub moved : MovedBy (length bytes) old new
  pub are_bytes : AreBytes bytes

-- the fault that an error of this kind is
abbrev pub fault_of : ErrorKind → Fault
fault_of kinds.Interrupted = Interrupted
fault_of kinds.OutOfMemory = NoMemory
fault_of _ = Failed

-- ---- laws

pub gives_nothing_outside : {R : Type 0} (remaining : R → Option (List ℕ)) → GivesNothing (GaveOutside remaining)
gives_nothing_outside remaining a = record { consumed = Consumes-nil _; fell = none_fell_refl (counts_of a); moved = omega arith; are_bytes = tt }

pub gives_in_order_outside : {R : Type 0} (remaining : R → Option (List ℕ)) → GivesInOrder (GaveOutside remaining)
gives_in_order_outside remaining a xs b ys c p q = record {
  consumed = Consumes-trans _ _ _ _ _ p.consumed q.consumed;
  fell = none_fell_trans p.fell q.fell;
  moved = omega (arith, p.moved, q.moved, length-append xs ys);
  are_bytes = bytes_in_order xs ys p.are_bytes q.are_bytes;
}
