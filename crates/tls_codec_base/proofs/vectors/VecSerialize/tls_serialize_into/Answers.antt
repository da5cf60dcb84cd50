use Rattle.tls_codec_base.proofs.vectors.VecSerialize.tls_serialize_into.Goals as goal

pub returns-clause-appends : goal.returns-clause-appends
returns-clause-appends g c = rw (← c.as_slice.ensures.value) c.append.ensures.appends
