use Rattle.tls_codec_base.proofs.context.vectors.VecSerializeFor.tls_serialize_into_for.Goals as goal

pub returns : goal.returns
returns g c = record { appends = rw (← c.as_slice.ensures.value) c.append_for.ensures.appends }
