-- A rise, and a refusal, of a later step.
use Rattle.std.proofs.Common.{◌⊎◌, inl, inr, arith}
use Rattle.tls_codec_wire.specs.Counts.{Counts, FaultIsCounted, NoneFell, RoseBy}
use Rattle.tls_codec_wire.specs.Transfer.{WriteRefused}
use Rattle.tls_codec_wire.specs.declared.error.Error.{Error}
use Rattle.tls_codec_wire.specs.declared.error.Error.TheVariants.{EncodingError, OutOfMemory}

pub rose_later : (start before after : Counts) → NoneFell start before → RoseBy 1 before.shortages after.shortages → RoseBy 1 start.shortages after.shortages
rose_later start before after fell rose = omega (arith, fell.shortages, rose)

pub fault_later : (start before after : Counts) → NoneFell start before → FaultIsCounted before after → FaultIsCounted start after
fault_later start before after fell (inl failed) = inl (omega (arith, fell.failures, failed))
fault_later start before after fell (inr interrupted) = inr (omega (arith, fell.interruptions, interrupted))

pub refused_later : (start before after : Counts) (e : Error) → NoneFell start before → WriteRefused before after e → WriteRefused start after e
refused_later start before after (EncodingError text) fell p = (p.0, fault_later start before after fell p.1)
refused_later start before after OutOfMemory fell p = rose_later start before after fell p
refused_later start before after _ fell p = absurd p

-- so is a cause, which is a refusal or one of these errors
pub cause_later : {P Q : Type 0} (start before after : Counts) (e : Error) → NoneFell start before → (P → Q) → WriteRefused before after e ⊎ P → WriteRefused start after e ⊎ Q
cause_later start before after e fell f (inl refused) = inl (refused_later start before after e fell refused)
cause_later start before after e fell f (inr named) = inr (f named)
