-- Why an encoder to memory refuses what has a form.
use Rattle.std.specs.Prelude.{◌≡◌, ◌≤◌, ◌^◌, ◌⊎◌, ℕ}
use Rattle.tls_codec_wire.specs.declared.error.Error.{Error}
use Rattle.tls_codec_wire.specs.declared.error.Error.TheVariants.{InvalidVectorLength, OutOfMemory}

-- no vector of n bytes was made: there was no memory, or they pass `isize::MAX`
abbrev pub NoVectorOf : ℕ → Error → Type 0
NoVectorOf n e = (e ≡ OutOfMemory) ⊎ ((e ≡ InvalidVectorLength) × (2 ^ 63 ≤ n))
