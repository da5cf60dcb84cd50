-- Decoders that never return `TrailingData`.
use Rattle.std.specs.Prelude.{ℕ, List}
use Rattle.tls_codec_wire.specs.Counts.{Counts}
use Rattle.tls_codec_wire.specs.Seen.{Causes}
use Rattle.tls_codec_wire.specs.declared.error.Error.TheVariants.{TrailingData}
use Rattle.tls_codec_base.specs.PartNames.{SliceNames}

-- it isn't among the errors that are named of a slice
abbrev pub NeverTrailing : SliceNames → Type 0
NeverTrailing names = (x : List ℕ) → names x TrailingData → ⊥

-- nor of a source
abbrev pub SourceNeverTrailing : Causes → Type 0
SourceNeverTrailing names = (x : List ℕ) (old new : Counts) → names x old new TrailingData → ⊥
