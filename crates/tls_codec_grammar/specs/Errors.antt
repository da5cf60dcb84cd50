-- Errors by their text.
use Rattle.std.specs.Prelude.{◌≡◌, List, ℕ}
use Rattle.tls_codec_wire.specs.declared.error.Error.{Error}
use Rattle.tls_codec_wire.specs.declared.error.Error.TheVariants.{DecodingError}

-- a decoding error of this text
abbrev pub Says : List ℕ → Error → Type 0
Says said (DecodingError text) = text.now ≡ said
Says said _ = ⊥
