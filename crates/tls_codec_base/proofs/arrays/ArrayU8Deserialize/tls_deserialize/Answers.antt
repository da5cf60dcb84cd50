use Rattle.tls_codec_wire.proofs.Seen.{refused_so}
use Rattle.tls_codec_base.proofs.ArrayCalls.{array_given, array_refuses_source}
use Rattle.tls_codec_base.proofs.arrays.ArrayU8Deserialize.tls_deserialize.Goals as goal

pub returns-in-Ok-clause-reads : goal.returns-in-Ok-clause-reads
returns-in-Ok-clause-reads g c = array_given _ _ c.in-Ok.ensures.width c.in-Ok.ensures.bytes _ _ _ c.in-Ok.ensures.reads

pub returns-in-Err-clause-reads : goal.returns-in-Err-clause-reads
returns-in-Err-clause-reads g c = record { refused = refused_so (array_refuses_source _ _) c.in-Err.ensures.reads.refused }

pub returns-in-Err-clause-named : goal.returns-in-Err-clause-named
returns-in-Err-clause-named g c = record { refused = refused_so (λ x q. (array_refuses_source _ _ x q.0, q.1)) c.in-Err.ensures.named.refused }
