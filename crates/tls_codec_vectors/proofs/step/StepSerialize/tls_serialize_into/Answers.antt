use Rattle.tls_codec.specs.OwnMessages.{u8_meets}
use Rattle.tls_codec.proofs.OwnMessages.{alone_appends, tagged_appends}
use Rattle.tls_codec_vectors.specs.Messages.{step_variants_meet}
use Rattle.tls_codec_vectors.proofs.step.StepSerialize.tls_serialize_into.Goals as goal

pub returns-in-Ping-clause-appends : goal.returns-in-Ping-clause-appends
returns-in-Ping-clause-appends c = let is = c.in-Ping.is in rw is (tagged_appends _ _ step_variants_meet _ _ _ _ (alone_appends u8_meets _ _ _ _ c.tls_serialize_into.ensures.appends))

pub returns-in-Note-clause-appends : goal.returns-in-Note-clause-appends
returns-in-Note-clause-appends c = let is = c.in-Note.is in rw is (tagged_appends _ _ step_variants_meet _ _ _ _ c.tls_serialize_into-in-Note.ensures.appends)

pub returns-in-Jump-clause-appends : goal.returns-in-Jump-clause-appends
returns-in-Jump-clause-appends c = let is = c.in-Jump.is in rw is (tagged_appends _ _ step_variants_meet _ _ _ _ c.tls_serialize_into-in-Jump.ensures.appends)
