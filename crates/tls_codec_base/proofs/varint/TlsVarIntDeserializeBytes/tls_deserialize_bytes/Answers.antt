use Rattle.tls_codec_wire.specs.VarintValue.{number_of}
use Rattle.tls_codec_grammar.proofs.VarintValues.{varint_splits}
use Rattle.tls_codec_base.proofs.varint.TlsVarIntDeserializeBytes.tls_deserialize_bytes.Goals as goal

pub returns-clause-splits : goal.returns-clause-splits
returns-clause-splits c = varint_splits number_of _ c.split_varint.result c.split_varint.ensures.ok c.split_varint.ensures.err
