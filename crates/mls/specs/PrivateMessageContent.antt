-- PrivateMessageContent: what it stands for, its format and its law.
use Rattle.tls_codec.specs.OwnMessages.{Tree, Format, pair_tree, pair_format, EachMeetsLaws, pair_meets}
use Rattle.mls.specs.PrivateContent.{private_content_plain, private_content_format_for, private_content_meets_for}
use Rattle.mls.specs.FramedContentAuthData.{framed_content_auth_data_plain, framed_content_auth_data_format_for, framed_content_auth_data_meets_for}
use Rattle.mls.specs.ContentType.{content_type_selected}
use Rattle.mls.specs.declared.private_message_content.PrivateMessageContent.{PrivateMessageContent}

abbrev pub private_message_content_plain : PrivateMessageContent → Tree
private_message_content_plain v = pair_tree (private_content_plain v.content) (framed_content_auth_data_plain v.auth)

abbrev pub private_message_content_format_for : Tree → Format
private_message_content_format_for c = pair_format (private_content_format_for c) (framed_content_auth_data_format_for c)

pub private_message_content_meets_for : EachMeetsLaws private_message_content_format_for
private_message_content_meets_for c = pair_meets (private_content_meets_for c) (framed_content_auth_data_meets_for c)
