use Rattle.tls_codec_grammar.proofs.VarintValues.{varint_writes}
use Rattle.tls_codec_base.proofs.varint.TlsVarIntSerialize.tls_serialize.Goals as goal

pub returns-clause-writes : goal.returns-clause-writes
returns-clause-writes g c = let sent = c.write_varint.ensures in varint_writes _ _ _ _ c.write_varint.result sent.ok sent.beginning sent.refused sent.counts
