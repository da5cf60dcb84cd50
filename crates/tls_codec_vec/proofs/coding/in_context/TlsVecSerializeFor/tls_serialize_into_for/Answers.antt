use Rattle.tls_codec_vec.proofs.coding.in_context.TlsVecSerializeFor.tls_serialize_into_for.Goals as goal

pub returns : goal.returns
returns g c = record { appends = rw c.as_slice.ensures at c.append_for.ensures.appends }
