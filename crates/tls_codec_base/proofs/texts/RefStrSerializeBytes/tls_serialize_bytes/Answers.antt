use Rattle.tls_codec_base.proofs.TextForms.{text_makes}
use Rattle.tls_codec_base.proofs.texts.RefStrSerializeBytes.tls_serialize_bytes.Goals as goal

pub returns-clause-makes : goal.returns-clause-makes
returns-clause-makes c = rw (← c.as_bytes.ensures.value) (text_makes _ c.as_bytes.ensures.utf8 c.to_vec.result c.to_vec.ensures.makes)

pub returns-clause-out_of_bounds : goal.returns-clause-out_of_bounds
returns-clause-out_of_bounds c = rw (← c.as_bytes.ensures.value) c.to_vec.ensures.out_of_bounds
