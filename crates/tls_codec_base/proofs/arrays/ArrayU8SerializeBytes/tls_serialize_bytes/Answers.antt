use Rattle.tls_codec_base.proofs.ArrayCalls.{array_form}
use Rattle.tls_codec_base.proofs.arrays.ArrayU8SerializeBytes.tls_serialize_bytes.Goals as goal

pub returns-clause-makes : goal.returns-clause-makes
returns-clause-makes g c = array_form _ _ c.told-self c.digits_vector.ensures.bytes _ c.in_ok-bytes.ensures.ok
