-- AuthenticatedContent: what it stands for, its format and its law.
use Rattle.tls_codec.specs.OwnMessages.{Tree, Join, Format, pair_tree, pair_format, then_format, MeetsLaws, pair_meets, then_meets}
use Rattle.mls.specs.WireFormat.{wire_format_plain, wire_format_format, wire_format_meets}
use Rattle.mls.specs.FramedContent.{framed_content_plain, framed_content_format, framed_content_meets}
use Rattle.mls.specs.FramedContentAuthData.{framed_content_auth_data_plain, framed_content_auth_data_format_for, framed_content_auth_data_meets_for}
use Rattle.mls.specs.FramedContent.{framed_content_content_type}
use Rattle.mls.specs.declared.authenticated_content.AuthenticatedContent.{AuthenticatedContent}

abbrev pub authenticated_content_plain : AuthenticatedContent → Tree
authenticated_content_plain v =
    pair_tree
    (wire_format_plain v.wire_format)
    (Join (framed_content_plain v.content) (framed_content_auth_data_plain v.auth))

abbrev pub authenticated_content_format : Format
authenticated_content_format =
    pair_format
    wire_format_format
    (then_format framed_content_format (λ c. framed_content_auth_data_format_for (framed_content_content_type c)))

pub authenticated_content_meets : MeetsLaws authenticated_content_format
authenticated_content_meets =
    pair_meets
    wire_format_meets
    (then_meets framed_content_meets (λ c. framed_content_auth_data_meets_for (framed_content_content_type c)))
