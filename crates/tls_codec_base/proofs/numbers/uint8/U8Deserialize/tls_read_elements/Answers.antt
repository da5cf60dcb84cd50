use Rattle.tls_codec_base.proofs.NumberRunSources.{byte_run}
use Rattle.tls_codec_base.proofs.numbers.uint8.U8Deserialize.tls_read_elements.Goals as goal

pub returns-clause-reads : goal.returns-clause-reads
returns-clause-reads g c = byte_run _ _ _ _ _ _ _ c.in_ok-bytes.ensures.run c.in-Some.is
