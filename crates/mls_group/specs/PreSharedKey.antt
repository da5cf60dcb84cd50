-- PreSharedKey: what it stands for, its format and its law.
use Rattle.tls_codec.specs.OwnMessages.{Tree, Format, MeetsLaws}
use Rattle.mls_group.specs.PreSharedKeyID.{pre_shared_key_id_plain, pre_shared_key_id_format, pre_shared_key_id_meets}
use Rattle.mls_group.specs.declared.pre_shared_key.PreSharedKey.{PreSharedKey}

abbrev pub pre_shared_key_plain : PreSharedKey → Tree
pre_shared_key_plain v = pre_shared_key_id_plain v.psk

abbrev pub pre_shared_key_format : Format
pre_shared_key_format = pre_shared_key_id_format

pub pre_shared_key_meets : MeetsLaws pre_shared_key_format
pre_shared_key_meets = pre_shared_key_id_meets
