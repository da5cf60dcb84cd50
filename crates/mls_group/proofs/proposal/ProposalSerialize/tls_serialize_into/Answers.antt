use Rattle.tls_codec.proofs.OwnMessages.{tagged_appends}
use Rattle.mls_group.specs.Proposal.{proposal_variants_meet}
use Rattle.mls_group.proofs.proposal.ProposalSerialize.tls_serialize_into.Goals as goal

pub returns-in-Add-clause-appends : goal.returns-in-Add-clause-appends
returns-in-Add-clause-appends c = let is = c.in-Add.is in rw is (tagged_appends _ _ proposal_variants_meet _ _ _ _
    c.tls_serialize_into.ensures.appends)

pub returns-in-Update-clause-appends : goal.returns-in-Update-clause-appends
returns-in-Update-clause-appends c = let is = c.in-Update.is in rw is
    (tagged_appends _ _ proposal_variants_meet _ _ _ _ c.tls_serialize_into-in-Update.ensures.appends)

pub returns-in-Remove-clause-appends : goal.returns-in-Remove-clause-appends
returns-in-Remove-clause-appends c = let is = c.in-Remove.is in rw is
    (tagged_appends _ _ proposal_variants_meet _ _ _ _ c.tls_serialize_into-in-Remove.ensures.appends)

pub returns-in-Psk-clause-appends : goal.returns-in-Psk-clause-appends
returns-in-Psk-clause-appends c = let is = c.in-Psk.is in rw is (tagged_appends _ _ proposal_variants_meet _ _ _ _
    c.tls_serialize_into-in-Psk.ensures.appends)

pub returns-in-Reinit-clause-appends : goal.returns-in-Reinit-clause-appends
returns-in-Reinit-clause-appends c = let is = c.in-Reinit.is in rw is
    (tagged_appends _ _ proposal_variants_meet _ _ _ _ c.tls_serialize_into-in-Reinit.ensures.appends)

pub returns-in-ExternalInit-clause-appends : goal.returns-in-ExternalInit-clause-appends
returns-in-ExternalInit-clause-appends c = let is = c.in-ExternalInit.is in rw is
    (tagged_appends _ _ proposal_variants_meet _ _ _ _ c.tls_serialize_into-in-ExternalInit.ensures.appends)

pub returns-in-GroupContextExtensions-clause-appends : goal.returns-in-GroupContextExtensions-clause-appends
returns-in-GroupContextExtensions-clause-appends c = let is = c.in-GroupContextExtensions.is in rw is
    (tagged_appends _ _ proposal_variants_meet _ _ _ _ c.tls_serialize_into-in-GroupContextExtensions.ensures.appends)
