use Rattle.tls_codec_base.proofs.ArrayCalls.{array_begins, array_refuses}
use Rattle.tls_codec_base.proofs.arrays.ArrayU8DeserializeBytes.tls_deserialize_bytes.Goals as goal

pub returns-in-Ok-clause-splits : goal.returns-in-Ok-clause-splits
returns-in-Ok-clause-splits g c = array_begins _ _ c.in-Ok.ensures.width c.in-Ok.ensures.bytes _ _ c.in-Ok.ensures.splits

pub returns-in-Err-clause-splits : goal.returns-in-Err-clause-splits
returns-in-Err-clause-splits g c = array_refuses _ _ _ _ c.in-Err.ensures.splits
