-- The status and the detail of an error, in plain numbers.
use Rattle.std.specs.Prelude.{ℕ}
use Rattle.tls_codec_wire.specs.declared.error.Error.{Error}
use Rattle.tls_codec_wire.specs.declared.error.Error.TheVariants.{EncodingError, InvalidVectorLength, InvalidWriteLength, InvalidInput, DecodingError, EndOfStream, TrailingData, UnknownValue, LibraryError, OutOfMemory}

-- the status of an error
abbrev pub status_number : Error → ℕ
status_number (EncodingError text) = 1
status_number InvalidVectorLength = 2
status_number (InvalidWriteLength text) = 3
status_number InvalidInput = 4
status_number (DecodingError text) = 5
status_number EndOfStream = 6
status_number TrailingData = 7
status_number (UnknownValue n) = 8
status_number LibraryError = 9
status_number OutOfMemory = 10

-- the value that isn't known; of another error 0
abbrev pub detail_number : Error → ℕ
detail_number (UnknownValue n) = n
detail_number _ = 0
