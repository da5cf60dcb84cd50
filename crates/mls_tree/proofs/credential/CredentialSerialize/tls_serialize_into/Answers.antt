use Rattle.tls_codec.proofs.OwnMessages.{tagged_appends}
use Rattle.mls_tree.specs.Credential.{credential_variants_meet}
use Rattle.mls_tree.proofs.credential.CredentialSerialize.tls_serialize_into.Goals as goal

pub returns-in-Basic-clause-appends : goal.returns-in-Basic-clause-appends
returns-in-Basic-clause-appends c = let is = c.in-Basic.is in rw is (tagged_appends _ _ credential_variants_meet _ _ _ _
    c.tls_serialize_into.ensures.appends)

pub returns-in-X509-clause-appends : goal.returns-in-X509-clause-appends
returns-in-X509-clause-appends c = let is = c.in-X509.is in rw is (tagged_appends _ _ credential_variants_meet _ _ _ _
    c.tls_serialize_into-in-X509.ensures.appends)
