-- FramedContent: what it stands for, its format and its law.
use Rattle.tls_codec.specs.OwnMessages.{Tree, Number, number_trees, Format, number_format, bytes_format, pair_tree, triple_tree, pair_format, triple_format, MeetsLaws, u64_meets, bytes_meets, pair_meets, triple_meets}
use Rattle.tls_codec.specs.Contents.{bytes_of}
use Rattle.tls_codec_cases.specs.Held.{first_of, second_of, third_of}
use Rattle.mls.specs.Sender.{sender_plain, sender_format, sender_meets}
use Rattle.mls.specs.FramedContentBody.{framed_content_body_plain, framed_content_body_format, framed_content_body_meets}
use Rattle.mls.specs.Sender.{sender_sender_type}
use Rattle.mls.specs.FramedContentBody.{framed_content_body_content_type}
use Rattle.mls.specs.declared.framed_content.FramedContent.{FramedContent}

abbrev pub framed_content_plain : FramedContent → Tree
framed_content_plain v =
    pair_tree
    (triple_tree (number_trees (bytes_of v.group_id)) (Number v.epoch) (sender_plain v.sender))
    (pair_tree (number_trees (bytes_of v.authenticated_data)) (framed_content_body_plain v.body))

abbrev pub framed_content_format : Format
framed_content_format =
    pair_format
    (triple_format bytes_format (number_format 8) sender_format)
    (pair_format bytes_format framed_content_body_format)

pub framed_content_meets : MeetsLaws framed_content_format
framed_content_meets =
    pair_meets
    (triple_meets bytes_meets u64_meets sender_meets)
    (pair_meets bytes_meets framed_content_body_meets)

-- the SenderType of a value, from what the value stands for
abbrev pub framed_content_sender_type : Tree → Tree
framed_content_sender_type c = sender_sender_type (third_of (first_of c))

-- the ContentType of a value, from what the value stands for
abbrev pub framed_content_content_type : Tree → Tree
framed_content_content_type c = framed_content_body_content_type (second_of (second_of c))
