use Rattle.tls_codec_base.proofs.TextForms.{text_appends}
use Rattle.tls_codec_base.proofs.texts.RefStrSerialize.tls_serialize_into.Goals as goal

pub returns-clause-appends : goal.returns-clause-appends
returns-clause-appends c = rw (← c.as_bytes.ensures.value) (text_appends _ c.as_bytes.ensures.utf8 _ _ c.append.result c.append.ensures.appends)

pub returns-clause-out_of_bounds : goal.returns-clause-out_of_bounds
returns-clause-out_of_bounds c = rw (← c.as_bytes.ensures.value) c.append.ensures.out_of_bounds
