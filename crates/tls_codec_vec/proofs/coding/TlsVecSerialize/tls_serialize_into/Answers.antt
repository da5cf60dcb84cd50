use Rattle.tls_codec_vec.proofs.coding.TlsVecSerialize.tls_serialize_into.Goals as goal

pub returns-clause-appends : goal.returns-clause-appends
returns-clause-appends g c = rw c.as_slice.ensures at c.append.ensures.appends
