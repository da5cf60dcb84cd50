-- PrivateMessage: what it stands for, its format and its law.
use Rattle.tls_codec.specs.OwnMessages.{Tree, Number, number_trees, Format, number_format, bytes_format, pair_tree, triple_tree, pair_format, triple_format, MeetsLaws, u64_meets, bytes_meets, pair_meets, triple_meets}
use Rattle.tls_codec.specs.Contents.{bytes_of}
use Rattle.mls.specs.ContentType.{content_type_plain, content_type_format, content_type_meets}
use Rattle.mls.specs.declared.private_message.PrivateMessage.{PrivateMessage}

abbrev pub private_message_plain : PrivateMessage → Tree
private_message_plain v =
    pair_tree
    (triple_tree (number_trees (bytes_of v.group_id)) (Number v.epoch) (content_type_plain v.content_type))
    (triple_tree (number_trees (bytes_of v.authenticated_data)) (number_trees (bytes_of v.encrypted_sender_data))
    (number_trees (bytes_of v.ciphertext)))

abbrev pub private_message_format : Format
private_message_format =
    pair_format
    (triple_format bytes_format (number_format 8) content_type_format)
    (triple_format bytes_format bytes_format bytes_format)

pub private_message_meets : MeetsLaws private_message_format
private_message_meets =
    pair_meets
    (triple_meets bytes_meets u64_meets content_type_meets)
    (triple_meets bytes_meets bytes_meets bytes_meets)
