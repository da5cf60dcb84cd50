use Rattle.tls_codec.specs.OwnMessages.{u8_meets}
use Rattle.tls_codec.proofs.OwnMessages.{alone_writes, tagged_writes}
use Rattle.mls.specs.Sender.{sender_variants_meet}
use Rattle.mls.proofs.sender.SenderSerialize.tls_serialize.Goals as goal

pub returns-in-Member-clause-writes : goal.returns-in-Member-clause-writes
returns-in-Member-clause-writes g c = let is = c.in-Member.is in rw is
    (tagged_writes _ _ sender_variants_meet _ _ _ _ _ c.tls_serialize.ensures.writes)

pub returns-in-External-clause-writes : goal.returns-in-External-clause-writes
returns-in-External-clause-writes g c = let is = c.in-External.is in rw is
    (tagged_writes _ _ sender_variants_meet _ _ _ _ _ c.tls_serialize-in-External.ensures.writes)

pub returns-in-NewMemberCommit-clause-writes : goal.returns-in-NewMemberCommit-clause-writes
returns-in-NewMemberCommit-clause-writes g c = let is = c.in-NewMemberCommit.is in rw is
    (tagged_writes _ _ sender_variants_meet _ _ _ _ _ (alone_writes u8_meets _ _ _ _ _ c.tls_serialize-in-NewMemberCommit.ensures.writes))

pub returns-in-NewMemberProposal-clause-writes : goal.returns-in-NewMemberProposal-clause-writes
returns-in-NewMemberProposal-clause-writes g c = let is = c.in-NewMemberProposal.is in rw is
    (tagged_writes _ _ sender_variants_meet _ _ _ _ _ (alone_writes u8_meets _ _ _ _ _ c.tls_serialize-in-NewMemberProposal.ensures.writes))
