-- What `AuthData` and `Signed` stand for, and which bytes spell them. The content type decides the first.
use Rattle.tls_codec.specs.Contents.{bytes_of}
use Rattle.tls_codec.specs.OwnMessages.{Tree, Number, Join, number_trees, option_plain, pair_tree, Format, number_format, bytes_format, pair_format, present_format, then_format, is_number, MeetsLaws, EachMeetsLaws, u8_meets, bytes_meets, pair_meets, present_meets, then_meets}
use Rattle.guide.specs.declared.auth_data.AuthData.{AuthData}
use Rattle.guide.specs.declared.signed.Signed.{Signed}

-- ---- in the context of a content type

abbrev pub auth_data_plain : AuthData → Tree
auth_data_plain v = pair_tree (number_trees (bytes_of v.signature)) (option_plain (λ tag. number_trees (bytes_of tag)) v.confirmation_tag)

abbrev pub auth_data_format_for : Tree → Format
auth_data_format_for content_type = pair_format bytes_format (present_format (is_number 3 content_type) bytes_format)

pub auth_data_meets_for : EachMeetsLaws auth_data_format_for
auth_data_meets_for content_type = pair_meets bytes_meets (present_meets (is_number 3 content_type) bytes_meets)

-- ---- which gives it

abbrev pub signed_plain : Signed → Tree
signed_plain v = Join (Number v.content_type) (pair_tree (number_trees (bytes_of v.data)) (auth_data_plain v.auth))

abbrev pub signed_format : Format
signed_format = then_format (number_format 1) (λ content_type. pair_format bytes_format (auth_data_format_for content_type))

pub signed_meets : MeetsLaws signed_format
signed_meets = then_meets u8_meets (λ content_type. pair_meets bytes_meets (auth_data_meets_for content_type))
