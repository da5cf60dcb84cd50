-- For which error a call returns: the variants of `Error`, and each one's name as a text.
pub use Rattle.tls_codec_wire.specs.declared.error.Error.TheVariants.{EncodingError, InvalidVectorLength, InvalidWriteLength, InvalidInput, DecodingError, EndOfStream, TrailingData, UnknownValue, LibraryError, OutOfMemory}
pub use Rattle.tls_codec_wire.specs.Names.{AreSame, name_of}
