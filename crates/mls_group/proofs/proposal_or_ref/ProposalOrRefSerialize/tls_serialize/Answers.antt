use Rattle.tls_codec.proofs.OwnMessages.{tagged_writes}
use Rattle.mls_group.specs.ProposalOrRef.{proposal_or_ref_variants_meet}
use Rattle.mls_group.proofs.proposal_or_ref.ProposalOrRefSerialize.tls_serialize.Goals as goal

pub returns-in-Proposal-clause-writes : goal.returns-in-Proposal-clause-writes
returns-in-Proposal-clause-writes g c = let is = c.in-Proposal.is in rw is
    (tagged_writes _ _ proposal_or_ref_variants_meet _ _ _ _ _ c.tls_serialize.ensures.writes)

pub returns-in-Reference-clause-writes : goal.returns-in-Reference-clause-writes
returns-in-Reference-clause-writes g c = let is = c.in-Reference.is in rw is
    (tagged_writes _ _ proposal_or_ref_variants_meet _ _ _ _ _ c.tls_serialize-in-Reference.ensures.writes)
