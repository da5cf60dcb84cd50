use Rattle.tls_codec.proofs.OwnMessages.{tagged_writes}
use Rattle.mls_tree.specs.Credential.{credential_variants_meet}
use Rattle.mls_tree.proofs.credential.CredentialSerialize.tls_serialize.Goals as goal

pub returns-in-Basic-clause-writes : goal.returns-in-Basic-clause-writes
returns-in-Basic-clause-writes g c = let is = c.in-Basic.is in rw is (tagged_writes _ _ credential_variants_meet _ _ _ _ _
    c.tls_serialize.ensures.writes)

pub returns-in-X509-clause-writes : goal.returns-in-X509-clause-writes
returns-in-X509-clause-writes g c = let is = c.in-X509.is in rw is (tagged_writes _ _ credential_variants_meet _ _ _ _ _
    c.tls_serialize-in-X509.ensures.writes)
