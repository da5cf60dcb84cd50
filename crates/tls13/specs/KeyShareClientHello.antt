-- KeyShareClientHello: what it stands for, its format and its law.
use Rattle.tls_codec.specs.OwnMessages.{Tree, trees, Format, fixed_list_format, MeetsLaws, fixed_list_meets}
use Rattle.tls_codec.specs.Contents.{elements_of}
use Rattle.tls13.specs.KeyShareEntry.{key_share_entry_plain, key_share_entry_format, key_share_entry_meets}
use Rattle.tls13.specs.declared.key_share_client_hello.KeyShareClientHello.{KeyShareClientHello}

abbrev pub key_share_client_hello_plain : KeyShareClientHello → Tree
key_share_client_hello_plain v = trees key_share_entry_plain (elements_of v.client_shares)

abbrev pub key_share_client_hello_format : Format
key_share_client_hello_format = fixed_list_format 2 key_share_entry_format

pub key_share_client_hello_meets : MeetsLaws key_share_client_hello_format
key_share_client_hello_meets = fixed_list_meets 2 key_share_entry_meets
