-- KeyShareServerHello: what it stands for, its format and its law.
use Rattle.tls_codec.specs.OwnMessages.{Tree, Format, MeetsLaws}
use Rattle.tls13.specs.KeyShareEntry.{key_share_entry_plain, key_share_entry_format, key_share_entry_meets}
use Rattle.tls13.specs.declared.key_share_server_hello.KeyShareServerHello.{KeyShareServerHello}

abbrev pub key_share_server_hello_plain : KeyShareServerHello → Tree
key_share_server_hello_plain v = key_share_entry_plain v.server_share

abbrev pub key_share_server_hello_format : Format
key_share_server_hello_format = key_share_entry_format

pub key_share_server_hello_meets : MeetsLaws key_share_server_hello_format
key_share_server_hello_meets = key_share_entry_meets
