use Rattle.tls_codec_wire.specs.Varint.{VectorLength}
use Rattle.tls_codec_grammar.specs.Grammar.{content, number, utf8}
use Rattle.tls_codec_base.proofs.FullValues.{bytes_full, counted_full, nothing_full, number_full, utf8_full, varint_full}
use Rattle.tls_codec_base.proofs.laws.full.each_value_is_full.Goals as goal

pub returns : goal.returns
returns g c = record {
  numbers = number_full;
  arrays = λ k v t p. p;
  integers = varint_full;
  units = nothing_full;
  bytes = λ v. counted_full g.F.LengthField.field.spells (content (number 1)) v (bytes_full v);
  texts = λ v. counted_full VectorLength utf8 v (utf8_full v);
}
