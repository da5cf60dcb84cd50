use Rattle.tls_codec.specs.OwnMessages.{u8_meets}
use Rattle.tls_codec.proofs.OwnMessages.{alone_appends, tagged_appends}
use Rattle.mls.specs.Sender.{sender_variants_meet}
use Rattle.mls.proofs.sender.SenderSerialize.tls_serialize_into.Goals as goal

pub returns-in-Member-clause-appends : goal.returns-in-Member-clause-appends
returns-in-Member-clause-appends c = let is = c.in-Member.is in rw is
    (tagged_appends _ _ sender_variants_meet _ _ _ _ c.tls_serialize_into.ensures.appends)

pub returns-in-External-clause-appends : goal.returns-in-External-clause-appends
returns-in-External-clause-appends c = let is = c.in-External.is in rw is
    (tagged_appends _ _ sender_variants_meet _ _ _ _ c.tls_serialize_into-in-External.ensures.appends)

pub returns-in-NewMemberCommit-clause-appends : goal.returns-in-NewMemberCommit-clause-appends
returns-in-NewMemberCommit-clause-appends c = let is = c.in-NewMemberCommit.is in rw is
    (tagged_appends _ _ sender_variants_meet _ _ _ _ (alone_appends u8_meets _ _ _ _
    c.tls_serialize_into-in-NewMemberCommit.ensures.appends))

pub returns-in-NewMemberProposal-clause-appends : goal.returns-in-NewMemberProposal-clause-appends
returns-in-NewMemberProposal-clause-appends c = let is = c.in-NewMemberProposal.is in rw is
    (tagged_appends _ _ sender_variants_meet _ _ _ _ (alone_appends u8_meets _ _ _ _
    c.tls_serialize_into-in-NewMemberProposal.ensures.appends))
