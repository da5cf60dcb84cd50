-- AuthenticatedContentTBM: what it stands for, its format and its law.
use Rattle.tls_codec.specs.OwnMessages.{Tree, Join, Format, then_format, MeetsLaws, then_meets}
use Rattle.mls.specs.FramedContentTBS.{framed_content_tbs_plain, framed_content_tbs_format, framed_content_tbs_meets}
use Rattle.mls.specs.FramedContentAuthData.{framed_content_auth_data_plain, framed_content_auth_data_format_for, framed_content_auth_data_meets_for}
use Rattle.mls.specs.FramedContentTBS.{framed_content_tbs_content_type}
use Rattle.mls.specs.declared.authenticated_content_tbm.AuthenticatedContentTBM.{AuthenticatedContentTBM}

abbrev pub authenticated_content_tbm_plain : AuthenticatedContentTBM → Tree
authenticated_content_tbm_plain v =
    Join
    (framed_content_tbs_plain v.content_tbs)
    (framed_content_auth_data_plain v.auth.now)

abbrev pub authenticated_content_tbm_format : Format
authenticated_content_tbm_format =
    then_format
    framed_content_tbs_format
    (λ c. framed_content_auth_data_format_for (framed_content_tbs_content_type c))

pub authenticated_content_tbm_meets : MeetsLaws authenticated_content_tbm_format
authenticated_content_tbm_meets =
    then_meets
    framed_content_tbs_meets
    (λ c. framed_content_auth_data_meets_for (framed_content_tbs_content_type c))
