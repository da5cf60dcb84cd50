-- PreSharedKeyID: what it stands for, its format and its law.
use Rattle.tls_codec.specs.OwnMessages.{Tree, number_trees, Format, bytes_format, pair_tree, pair_format, MeetsLaws, bytes_meets, pair_meets}
use Rattle.tls_codec.specs.Contents.{bytes_of}
use Rattle.mls_group.specs.PSKOrigin.{psk_origin_plain, psk_origin_format, psk_origin_meets}
use Rattle.mls_group.specs.declared.pre_shared_key_id.PreSharedKeyID.{PreSharedKeyID}

abbrev pub pre_shared_key_id_plain : PreSharedKeyID → Tree
pre_shared_key_id_plain v = pair_tree (psk_origin_plain v.psktype) (number_trees (bytes_of v.psk_nonce))

abbrev pub pre_shared_key_id_format : Format
pre_shared_key_id_format = pair_format psk_origin_format bytes_format

pub pre_shared_key_id_meets : MeetsLaws pre_shared_key_id_format
pre_shared_key_id_meets = pair_meets psk_origin_meets bytes_meets
