use Rattle.tls_codec_outcome.proofs.fields.field_for.Goals as goal

pub returns-in-Err : goal.returns-in-Err
returns-in-Err g c context is at = absurd ((c.in-Err.ensures.validates context is).none at.begins.value at.begins.rest (rw c.bytes_from-here.ensures at.begins.begins))
