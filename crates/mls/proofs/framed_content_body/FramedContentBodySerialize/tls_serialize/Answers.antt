use Rattle.tls_codec.proofs.OwnMessages.{tagged_writes}
use Rattle.mls.specs.FramedContentBody.{framed_content_body_variants_meet}
use Rattle.mls.proofs.framed_content_body.FramedContentBodySerialize.tls_serialize.Goals as goal

pub returns-in-Application-clause-writes : goal.returns-in-Application-clause-writes
returns-in-Application-clause-writes g c = let is = c.in-Application.is in rw is
    (tagged_writes _ _ framed_content_body_variants_meet _ _ _ _ _ c.tls_serialize.ensures.writes)

pub returns-in-Proposal-clause-writes : goal.returns-in-Proposal-clause-writes
returns-in-Proposal-clause-writes g c = let is = c.in-Proposal.is in rw is
    (tagged_writes _ _ framed_content_body_variants_meet _ _ _ _ _ c.tls_serialize-in-Proposal.ensures.writes)

pub returns-in-Commit-clause-writes : goal.returns-in-Commit-clause-writes
returns-in-Commit-clause-writes g c = let is = c.in-Commit.is in rw is
    (tagged_writes _ _ framed_content_body_variants_meet _ _ _ _ _ c.tls_serialize-in-Commit.ensures.writes)
