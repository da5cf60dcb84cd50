-- PostHandshakeAuth: what it stands for, its format and its law.
use Rattle.tls_codec.specs.OwnMessages.{Tree, Empty, Format, nothing_format, MeetsLaws, nothing_meets}
use Rattle.tls13.specs.declared.post_handshake_auth.PostHandshakeAuth.{PostHandshakeAuth}

abbrev pub post_handshake_auth_plain : PostHandshakeAuth → Tree
post_handshake_auth_plain v = Empty

abbrev pub post_handshake_auth_format : Format
post_handshake_auth_format = nothing_format

pub post_handshake_auth_meets : MeetsLaws post_handshake_auth_format
post_handshake_auth_meets = nothing_meets
