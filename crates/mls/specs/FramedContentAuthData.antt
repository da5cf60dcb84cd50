-- FramedContentAuthData: what it stands for, its format and its law.
use Rattle.std.specs.Prelude.{◌==◌}
use Rattle.tls_codec.specs.OwnMessages.{Tree, number_trees, option_plain, Format, bytes_format, pair_tree, pair_format, present_format, EachMeetsLaws, bytes_meets, pair_meets, present_meets}
use Rattle.tls_codec.specs.Contents.{bytes_of}
use Rattle.mls.specs.ContentType.{content_type_selected}
use Rattle.mls.specs.declared.framed_content_auth_data.FramedContentAuthData.{FramedContentAuthData}

abbrev pub framed_content_auth_data_plain : FramedContentAuthData → Tree
framed_content_auth_data_plain v = pair_tree (number_trees (bytes_of v.signature))
    (option_plain (λ v. number_trees (bytes_of v)) v.confirmation_tag)

abbrev pub framed_content_auth_data_format_for : Tree → Format
framed_content_auth_data_format_for c = pair_format bytes_format (present_format (content_type_selected c == 3) bytes_format)

pub framed_content_auth_data_meets_for : EachMeetsLaws framed_content_auth_data_format_for
framed_content_auth_data_meets_for c = pair_meets bytes_meets (present_meets (content_type_selected c == 3) bytes_meets)
