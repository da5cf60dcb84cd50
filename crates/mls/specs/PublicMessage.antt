-- PublicMessage: what it stands for, its format and its law.
use Rattle.std.specs.Prelude.{◌==◌}
use Rattle.tls_codec.specs.OwnMessages.{Tree, Join, number_trees, option_plain, Format, bytes_format, pair_tree, pair_format, then_format, present_format, MeetsLaws, bytes_meets, pair_meets, then_meets, present_meets}
use Rattle.tls_codec.specs.Contents.{bytes_of}
use Rattle.mls.specs.FramedContent.{framed_content_plain, framed_content_format, framed_content_meets}
use Rattle.mls.specs.FramedContentAuthData.{framed_content_auth_data_plain, framed_content_auth_data_format_for, framed_content_auth_data_meets_for}
use Rattle.mls.specs.SenderType.{sender_type_selected}
use Rattle.mls.specs.FramedContent.{framed_content_content_type}
use Rattle.mls.specs.FramedContent.{framed_content_sender_type}
use Rattle.mls.specs.declared.public_message.PublicMessage.{PublicMessage}

abbrev pub public_message_plain : PublicMessage → Tree
public_message_plain v =
    Join
    (framed_content_plain v.content)
    (pair_tree (framed_content_auth_data_plain v.auth) (option_plain (λ v. number_trees (bytes_of v)) v.membership_tag))

abbrev pub public_message_format : Format
public_message_format =
    then_format
    framed_content_format
    (λ c. pair_format (framed_content_auth_data_format_for (framed_content_content_type c))
    (present_format (sender_type_selected (framed_content_sender_type c) == 1) bytes_format))

pub public_message_meets : MeetsLaws public_message_format
public_message_meets =
    then_meets
    framed_content_meets
    (λ c. pair_meets (framed_content_auth_data_meets_for (framed_content_content_type c))
    (present_meets (sender_type_selected (framed_content_sender_type c) == 1) bytes_meets))
