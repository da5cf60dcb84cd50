-- The names of the errors, and which are the same.
use Rattle.std.specs.Prelude.{◌≡◌, ℕ, List, codes, ⊤}
use Rattle.tls_codec_wire.specs.declared.error.Error.{Error}
use Rattle.tls_codec_wire.specs.declared.error.Error.TheVariants.{EncodingError, InvalidVectorLength, InvalidWriteLength, InvalidInput, DecodingError, EndOfStream, TrailingData, UnknownValue, LibraryError, OutOfMemory}

-- the variant's name
abbrev pub name_of : Error → List ℕ
name_of (EncodingError text) = codes "EncodingError"
name_of InvalidVectorLength = codes "InvalidVectorLength"
name_of (InvalidWriteLength text) = codes "InvalidWriteLength"
name_of InvalidInput = codes "InvalidInput"
name_of (DecodingError text) = codes "DecodingError"
name_of EndOfStream = codes "EndOfStream"
name_of TrailingData = codes "TrailingData"
name_of (UnknownValue n) = codes "UnknownValue"
name_of LibraryError = codes "LibraryError"
name_of OutOfMemory = codes "OutOfMemory"

-- one variant, with one text or number
abbrev pub AreSame : Error → Error → Type 0
AreSame (EncodingError a) (EncodingError b) = a.now ≡ b.now
AreSame InvalidVectorLength InvalidVectorLength = ⊤
AreSame (InvalidWriteLength a) (InvalidWriteLength b) = a.now ≡ b.now
AreSame InvalidInput InvalidInput = ⊤
AreSame (DecodingError a) (DecodingError b) = a.now ≡ b.now
AreSame EndOfStream EndOfStream = ⊤
AreSame TrailingData TrailingData = ⊤
AreSame (UnknownValue m) (UnknownValue n) = m ≡ n
AreSame LibraryError LibraryError = ⊤
AreSame OutOfMemory OutOfMemory = ⊤
AreSame _ _ = ⊥
