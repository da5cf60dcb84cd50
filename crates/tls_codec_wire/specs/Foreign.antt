-- What errors of std become.
use Rattle.std.specs.Prelude.{◌≡◌, ◌≢◌, codes}
use Rattle.std.specs.IoError.{error_kind}
use Rattle.std.specs.declared.io.Error as io
use Rattle.std.specs.declared.io.ErrorKind.TheVariants.{UnexpectedEof}
use Rattle.tls_codec_wire.specs.declared.error.Error.{Error}
use Rattle.tls_codec_wire.specs.declared.error.Error.TheVariants.{DecodingError, EndOfStream}

-- the error of every kind but the early end
abbrev pub IsIoError : Error → Type 0
IsIoError (DecodingError text) = text.now ≡ codes "io error"
IsIoError _ = ⊥

-- an early end is one of the bytes, and every other kind is an error of the device
pub record ErrorOfIo (from : io.Error) (e : Error) : Type 0 where
  pub end : error_kind from ≡ UnexpectedEof → e ≡ EndOfStream
  pub other : error_kind from ≢ UnexpectedEof → IsIoError e
