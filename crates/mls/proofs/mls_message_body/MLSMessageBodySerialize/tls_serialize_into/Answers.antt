use Rattle.tls_codec.proofs.OwnMessages.{tagged_appends}
use Rattle.mls.specs.MLSMessageBody.{mls_message_body_variants_meet}
use Rattle.mls.proofs.mls_message_body.MLSMessageBodySerialize.tls_serialize_into.Goals as goal

pub returns-in-MlsPublicMessage-clause-appends : goal.returns-in-MlsPublicMessage-clause-appends
returns-in-MlsPublicMessage-clause-appends c = let is = c.in-MlsPublicMessage.is in rw is
    (tagged_appends _ _ mls_message_body_variants_meet _ _ _ _ c.tls_serialize_into.ensures.appends)

pub returns-in-MlsPrivateMessage-clause-appends : goal.returns-in-MlsPrivateMessage-clause-appends
returns-in-MlsPrivateMessage-clause-appends c = let is = c.in-MlsPrivateMessage.is in rw is
    (tagged_appends _ _ mls_message_body_variants_meet _ _ _ _ c.tls_serialize_into-in-MlsPrivateMessage.ensures.appends)

pub returns-in-MlsWelcome-clause-appends : goal.returns-in-MlsWelcome-clause-appends
returns-in-MlsWelcome-clause-appends c = let is = c.in-MlsWelcome.is in rw is
    (tagged_appends _ _ mls_message_body_variants_meet _ _ _ _ c.tls_serialize_into-in-MlsWelcome.ensures.appends)

pub returns-in-MlsGroupInfo-clause-appends : goal.returns-in-MlsGroupInfo-clause-appends
returns-in-MlsGroupInfo-clause-appends c = let is = c.in-MlsGroupInfo.is in rw is
    (tagged_appends _ _ mls_message_body_variants_meet _ _ _ _ c.tls_serialize_into-in-MlsGroupInfo.ensures.appends)

pub returns-in-MlsKeyPackage-clause-appends : goal.returns-in-MlsKeyPackage-clause-appends
returns-in-MlsKeyPackage-clause-appends c = let is = c.in-MlsKeyPackage.is in rw is
    (tagged_appends _ _ mls_message_body_variants_meet _ _ _ _ c.tls_serialize_into-in-MlsKeyPackage.ensures.appends)
