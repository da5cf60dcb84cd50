use Rattle.tls_codec.proofs.OwnMessages.{tagged_writes}
use Rattle.mls_group.specs.Proposal.{proposal_variants_meet}
use Rattle.mls_group.proofs.proposal.ProposalSerialize.tls_serialize.Goals as goal

pub returns-in-Add-clause-writes : goal.returns-in-Add-clause-writes
returns-in-Add-clause-writes g c = let is = c.in-Add.is in rw is (tagged_writes _ _ proposal_variants_meet _ _ _ _ _
    c.tls_serialize.ensures.writes)

pub returns-in-Update-clause-writes : goal.returns-in-Update-clause-writes
returns-in-Update-clause-writes g c = let is = c.in-Update.is in rw is
    (tagged_writes _ _ proposal_variants_meet _ _ _ _ _ c.tls_serialize-in-Update.ensures.writes)

pub returns-in-Remove-clause-writes : goal.returns-in-Remove-clause-writes
returns-in-Remove-clause-writes g c = let is = c.in-Remove.is in rw is
    (tagged_writes _ _ proposal_variants_meet _ _ _ _ _ c.tls_serialize-in-Remove.ensures.writes)

pub returns-in-Psk-clause-writes : goal.returns-in-Psk-clause-writes
returns-in-Psk-clause-writes g c = let is = c.in-Psk.is in rw is (tagged_writes _ _ proposal_variants_meet _ _ _ _ _
    c.tls_serialize-in-Psk.ensures.writes)

pub returns-in-Reinit-clause-writes : goal.returns-in-Reinit-clause-writes
returns-in-Reinit-clause-writes g c = let is = c.in-Reinit.is in rw is
    (tagged_writes _ _ proposal_variants_meet _ _ _ _ _ c.tls_serialize-in-Reinit.ensures.writes)

pub returns-in-ExternalInit-clause-writes : goal.returns-in-ExternalInit-clause-writes
returns-in-ExternalInit-clause-writes g c = let is = c.in-ExternalInit.is in rw is
    (tagged_writes _ _ proposal_variants_meet _ _ _ _ _ c.tls_serialize-in-ExternalInit.ensures.writes)

pub returns-in-GroupContextExtensions-clause-writes : goal.returns-in-GroupContextExtensions-clause-writes
returns-in-GroupContextExtensions-clause-writes g c = let is = c.in-GroupContextExtensions.is in rw is
    (tagged_writes _ _ proposal_variants_meet _ _ _ _ _ c.tls_serialize-in-GroupContextExtensions.ensures.writes)
