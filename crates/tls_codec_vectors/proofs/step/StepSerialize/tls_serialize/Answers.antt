use Rattle.tls_codec.specs.OwnMessages.{u8_meets}
use Rattle.tls_codec.proofs.OwnMessages.{alone_writes, tagged_writes}
use Rattle.tls_codec_vectors.specs.Messages.{step_variants_meet}
use Rattle.tls_codec_vectors.proofs.step.StepSerialize.tls_serialize.Goals as goal

pub returns-in-Ping-clause-writes : goal.returns-in-Ping-clause-writes
returns-in-Ping-clause-writes g c = let is = c.in-Ping.is in rw is (tagged_writes _ _ step_variants_meet _ _ _ _ _ (alone_writes u8_meets _ _ _ _ _ c.tls_serialize.ensures.writes))

pub returns-in-Note-clause-writes : goal.returns-in-Note-clause-writes
returns-in-Note-clause-writes g c = let is = c.in-Note.is in rw is (tagged_writes _ _ step_variants_meet _ _ _ _ _ c.tls_serialize-in-Note.ensures.writes)

pub returns-in-Jump-clause-writes : goal.returns-in-Jump-clause-writes
returns-in-Jump-clause-writes g c = let is = c.in-Jump.is in rw is (tagged_writes _ _ step_variants_meet _ _ _ _ _ c.tls_serialize-in-Jump.ensures.writes)
