-- MLSMessage: what it stands for, its format and its law.
use Rattle.tls_codec.specs.OwnMessages.{Tree, Format, pair_tree, pair_format, MeetsLaws, pair_meets}
use Rattle.mls_group.specs.ProtocolVersionMls10.{protocol_version_mls10_plain, protocol_version_mls10_format, protocol_version_mls10_meets}
use Rattle.mls.specs.MLSMessageBody.{mls_message_body_plain, mls_message_body_format, mls_message_body_meets}
use Rattle.mls.specs.declared.mls_message.MLSMessage.{MLSMessage}

abbrev pub mls_message_plain : MLSMessage → Tree
mls_message_plain v = pair_tree (protocol_version_mls10_plain v.version) (mls_message_body_plain v.body)

abbrev pub mls_message_format : Format
mls_message_format = pair_format protocol_version_mls10_format mls_message_body_format

pub mls_message_meets : MeetsLaws mls_message_format
mls_message_meets = pair_meets protocol_version_mls10_meets mls_message_body_meets
