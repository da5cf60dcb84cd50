-- KeyUpdate: what it stands for, its format and its law.
use Rattle.tls_codec.specs.OwnMessages.{Tree, Format, MeetsLaws}
use Rattle.tls13.specs.KeyUpdateRequest.{key_update_request_plain, key_update_request_format, key_update_request_meets}
use Rattle.tls13.specs.declared.key_update.KeyUpdate.{KeyUpdate}

abbrev pub key_update_plain : KeyUpdate → Tree
key_update_plain v = key_update_request_plain v.request_update

abbrev pub key_update_format : Format
key_update_format = key_update_request_format

pub key_update_meets : MeetsLaws key_update_format
key_update_meets = key_update_request_meets
