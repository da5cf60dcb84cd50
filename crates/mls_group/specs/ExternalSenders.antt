-- ExternalSenders: what it stands for, its format and its law.
use Rattle.tls_codec.specs.OwnMessages.{Tree, trees, Format, list_format, MeetsLaws, list_meets}
use Rattle.mls_group.specs.ExternalSender.{external_sender_plain, external_sender_format, external_sender_meets}
use Rattle.mls_group.specs.declared.external_senders.ExternalSenders.{ExternalSenders}

abbrev pub external_senders_plain : ExternalSenders → Tree
external_senders_plain v = trees external_sender_plain v.external_senders.items

abbrev pub external_senders_format : Format
external_senders_format = list_format external_sender_format

pub external_senders_meets : MeetsLaws external_senders_format
external_senders_meets = list_meets external_sender_meets
