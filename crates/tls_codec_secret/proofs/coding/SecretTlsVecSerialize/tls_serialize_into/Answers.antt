use Rattle.tls_codec_secret.proofs.coding.SecretTlsVecSerialize.tls_serialize_into.Goals as goal

pub returns-clause-appends : goal.returns-clause-appends
returns-clause-appends g c = rw c.as_slice.ensures at c.append.ensures.appends
