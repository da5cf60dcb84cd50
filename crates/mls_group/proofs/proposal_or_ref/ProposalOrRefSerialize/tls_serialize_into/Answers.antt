use Rattle.tls_codec.proofs.OwnMessages.{tagged_appends}
use Rattle.mls_group.specs.ProposalOrRef.{proposal_or_ref_variants_meet}
use Rattle.mls_group.proofs.proposal_or_ref.ProposalOrRefSerialize.tls_serialize_into.Goals as goal

pub returns-in-Proposal-clause-appends : goal.returns-in-Proposal-clause-appends
returns-in-Proposal-clause-appends c = let is = c.in-Proposal.is in rw is
    (tagged_appends _ _ proposal_or_ref_variants_meet _ _ _ _ c.tls_serialize_into.ensures.appends)

pub returns-in-Reference-clause-appends : goal.returns-in-Reference-clause-appends
returns-in-Reference-clause-appends c = let is = c.in-Reference.is in rw is
    (tagged_appends _ _ proposal_or_ref_variants_meet _ _ _ _ c.tls_serialize_into-in-Reference.ensures.appends)
