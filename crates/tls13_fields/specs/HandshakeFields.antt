-- The fields of Handshake.
use Rattle.std.specs.Prelude.{ℕ, List}
use Rattle.tls_codec_outcome.specs.Cases.{IsCaseFrom}
use Rattle.tls13.specs.Handshake.{handshake_variants}
use Rattle.tls13_fields.specs.declared.handshake.HandshakeFields.{HandshakeFields}

-- x begins with a tag of one byte, and after it is what the case of this tag has
pub record AreHandshakeFields (x : List ℕ) (f : HandshakeFields) : Type 0 where
  pub case : IsCaseFrom 1 handshake_variants x 0 f.msg_type f.body
