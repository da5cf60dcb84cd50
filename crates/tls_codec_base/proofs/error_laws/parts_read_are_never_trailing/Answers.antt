use Rattle.tls_codec_base.proofs.Trailing.{box_source_never, fields_source_never, list_source_never, option_source_never}
use Rattle.tls_codec_base.proofs.error_laws.parts_read_are_never_trailing.Goals as goal

pub returns : goal.returns
returns g c = record {
  boxes = box_source_never g.T.Size.format g.T.Deserialize.names;
  options = option_source_never g.T.Deserialize.names;
  pairs = fields_source_never g.T.Size.format g.T.Deserialize.names g.U.Deserialize.names;
  triples = λ first second third. fields_source_never g.T.Size.format g.T.Deserialize.names _ first (fields_source_never g.U.Size.format g.U.Deserialize.names g.V.Deserialize.names second third);
  lists = list_source_never g.T.Size.format g.T.Deserialize.names g.met.F.LengthField.lawful;
}
