-- ExternalSender: what it stands for, its format and its law.
use Rattle.tls_codec.specs.OwnMessages.{Tree, number_trees, Format, bytes_format, pair_tree, pair_format, MeetsLaws, bytes_meets, pair_meets}
use Rattle.tls_codec.specs.Contents.{bytes_of}
use Rattle.mls_tree.specs.Credential.{credential_plain, credential_format, credential_meets}
use Rattle.mls_group.specs.declared.external_sender.ExternalSender.{ExternalSender}

abbrev pub external_sender_plain : ExternalSender → Tree
external_sender_plain v = pair_tree (number_trees (bytes_of v.signature_key)) (credential_plain v.credential)

abbrev pub external_sender_format : Format
external_sender_format = pair_format bytes_format credential_format

pub external_sender_meets : MeetsLaws external_sender_format
external_sender_meets = pair_meets bytes_meets credential_meets
