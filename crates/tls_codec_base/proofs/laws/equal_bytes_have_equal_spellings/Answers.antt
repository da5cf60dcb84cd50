use Rattle.tls_codec_grammar.proofs.ByteContents.{bytes_counted}
use Rattle.tls_codec_base.proofs.laws.equal_bytes_have_equal_spellings.Goals as goal

pub returns : goal.returns
returns g c = record {
  bytes = bytes_counted g.F.LengthField.field.spells;
  lists = bytes_counted g.F.LengthField.field.spells;
}
