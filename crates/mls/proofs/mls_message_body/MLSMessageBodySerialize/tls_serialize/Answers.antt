use Rattle.tls_codec.proofs.OwnMessages.{tagged_writes}
use Rattle.mls.specs.MLSMessageBody.{mls_message_body_variants_meet}
use Rattle.mls.proofs.mls_message_body.MLSMessageBodySerialize.tls_serialize.Goals as goal

pub returns-in-MlsPublicMessage-clause-writes : goal.returns-in-MlsPublicMessage-clause-writes
returns-in-MlsPublicMessage-clause-writes g c = let is = c.in-MlsPublicMessage.is in rw is
    (tagged_writes _ _ mls_message_body_variants_meet _ _ _ _ _ c.tls_serialize.ensures.writes)

pub returns-in-MlsPrivateMessage-clause-writes : goal.returns-in-MlsPrivateMessage-clause-writes
returns-in-MlsPrivateMessage-clause-writes g c = let is = c.in-MlsPrivateMessage.is in rw is
    (tagged_writes _ _ mls_message_body_variants_meet _ _ _ _ _ c.tls_serialize-in-MlsPrivateMessage.ensures.writes)

pub returns-in-MlsWelcome-clause-writes : goal.returns-in-MlsWelcome-clause-writes
returns-in-MlsWelcome-clause-writes g c = let is = c.in-MlsWelcome.is in rw is
    (tagged_writes _ _ mls_message_body_variants_meet _ _ _ _ _ c.tls_serialize-in-MlsWelcome.ensures.writes)

pub returns-in-MlsGroupInfo-clause-writes : goal.returns-in-MlsGroupInfo-clause-writes
returns-in-MlsGroupInfo-clause-writes g c = let is = c.in-MlsGroupInfo.is in rw is
    (tagged_writes _ _ mls_message_body_variants_meet _ _ _ _ _ c.tls_serialize-in-MlsGroupInfo.ensures.writes)

pub returns-in-MlsKeyPackage-clause-writes : goal.returns-in-MlsKeyPackage-clause-writes
returns-in-MlsKeyPackage-clause-writes g c = let is = c.in-MlsKeyPackage.is in rw is
    (tagged_writes _ _ mls_message_body_variants_meet _ _ _ _ _ c.tls_serialize-in-MlsKeyPackage.ensures.writes)
