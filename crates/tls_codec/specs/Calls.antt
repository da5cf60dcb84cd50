-- For contracts over calls of the library: what they return, and what is known of the sources and sinks that they are
-- given.
pub use Rattle.tls_codec_wire.specs.declared.device.Sink.{Ghosts as SinkGhosts}
pub use Rattle.tls_codec_wire.specs.declared.device.Source.{Ghosts as SourceGhosts}
pub use Rattle.tls_codec_wire.specs.declared.error.Error.{Error}
pub use Rattle.tls_codec_grammar.specs.Decoding.{Named, Reads, ReadsWhole, RefusesFromSource, Splits}
pub use Rattle.tls_codec_grammar.specs.Encoding.{AppendsForm, Makes, Writes}
