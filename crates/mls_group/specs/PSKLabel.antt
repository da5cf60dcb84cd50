-- PSKLabel: what it stands for, its format and its law.
use Rattle.tls_codec.specs.OwnMessages.{Tree, Number, Format, number_format, triple_tree, triple_format, MeetsLaws, u16_meets, triple_meets}
use Rattle.mls_group.specs.PreSharedKeyID.{pre_shared_key_id_plain, pre_shared_key_id_format, pre_shared_key_id_meets}
use Rattle.mls_group.specs.declared.psk_label.PSKLabel.{PSKLabel}

abbrev pub psk_label_plain : PSKLabel → Tree
psk_label_plain v = triple_tree (pre_shared_key_id_plain v.id.now) (Number v.index.now) (Number v.count.now)

abbrev pub psk_label_format : Format
psk_label_format = triple_format pre_shared_key_id_format (number_format 2) (number_format 2)

pub psk_label_meets : MeetsLaws psk_label_format
psk_label_meets = triple_meets pre_shared_key_id_meets u16_meets u16_meets
