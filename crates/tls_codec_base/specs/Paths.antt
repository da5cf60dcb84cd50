-- What both decoders of a type return of the same bytes.
use Rattle.std.specs.Prelude.{◌≡◌, ◌⊎◌, ℕ, List, Bool, false, Some, Result}
use Rattle.std.specs.Borrow.{Bor}
use Rattle.tls_codec_wire.specs.Counts.{Counts, FaultIsCounted, RoseBy}
use Rattle.tls_codec_wire.specs.declared.device.Source.{Ghosts}
use Rattle.tls_codec_wire.specs.declared.error.Error.{Error}
use Rattle.tls_codec_wire.specs.declared.error.Error.TheVariants.{OutOfMemory}
use Rattle.tls_codec_grammar.specs.Tree.{Tree}
use Rattle.tls_codec_grammar.specs.Format.{Format}
use Rattle.tls_codec_grammar.specs.Decoding.{Reads, Splits}

-- one decoder was given the slice x, and the other a source that reports the same bytes
pub record BothRead {T S : Type 0} (f : Format) (plain : T → Tree) (source : Ghosts S) (x : List ℕ) (old new : S) (from_slice : Result (T × Bor (List ℕ)) Error) (from_source : Result T Error) : Type 0 where
  pub reported : source.coming old ≡ Some x
  pub splits : Splits f plain x from_slice
  pub reads : Reads f plain source old new from_source

-- there was no memory, and the type isn't lean
abbrev pub NoMemory : Bool → Error → Type 0
NoMemory lean e = (e ≡ OutOfMemory) × (lean ≡ false)

-- a fault of the source was counted, or there was no memory; a lean type returns that only if the source had none
abbrev pub FaultOrNoMemory : Bool → Counts → Counts → Error → Type 0
FaultOrNoMemory lean old new e = FaultIsCounted old new ⊎ ((e ≡ OutOfMemory) × ((lean ≡ false) ⊎ RoseBy 1 old.shortages new.shortages))
