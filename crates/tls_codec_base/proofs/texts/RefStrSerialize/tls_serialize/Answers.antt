use Rattle.tls_codec_base.proofs.TextForms.{text_writes}
use Rattle.tls_codec_base.proofs.texts.RefStrSerialize.tls_serialize.Goals as goal

pub returns-clause-writes : goal.returns-clause-writes
returns-clause-writes g c = rw (← c.as_bytes.ensures.value) (text_writes _ c.as_bytes.ensures.utf8 _ _ _ c.write.result c.write.ensures.writes)

pub returns-clause-out_of_bounds : goal.returns-clause-out_of_bounds
returns-clause-out_of_bounds g c = rw (← c.as_bytes.ensures.value) c.write.ensures.out_of_bounds
