use Rattle.tls_codec.proofs.OwnMessages.{tagged_appends}
use Rattle.mls.specs.FramedContentBody.{framed_content_body_variants_meet}
use Rattle.mls.proofs.framed_content_body.FramedContentBodySerialize.tls_serialize_into.Goals as goal

pub returns-in-Application-clause-appends : goal.returns-in-Application-clause-appends
returns-in-Application-clause-appends c = let is = c.in-Application.is in rw is
    (tagged_appends _ _ framed_content_body_variants_meet _ _ _ _ c.tls_serialize_into.ensures.appends)

pub returns-in-Proposal-clause-appends : goal.returns-in-Proposal-clause-appends
returns-in-Proposal-clause-appends c = let is = c.in-Proposal.is in rw is
    (tagged_appends _ _ framed_content_body_variants_meet _ _ _ _ c.tls_serialize_into-in-Proposal.ensures.appends)

pub returns-in-Commit-clause-appends : goal.returns-in-Commit-clause-appends
returns-in-Commit-clause-appends c = let is = c.in-Commit.is in rw is
    (tagged_appends _ _ framed_content_body_variants_meet _ _ _ _ c.tls_serialize_into-in-Commit.ensures.appends)
