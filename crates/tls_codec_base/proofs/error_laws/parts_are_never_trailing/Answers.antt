use Rattle.tls_codec_base.proofs.Trailing.{box_never, fields_never, list_never, option_never}
use Rattle.tls_codec_base.proofs.error_laws.parts_are_never_trailing.Goals as goal

pub returns : goal.returns
returns g c = record {
  boxes = box_never g.T.Size.format g.T.DeserializeBytes.names;
  options = option_never g.T.DeserializeBytes.names;
  pairs = fields_never g.T.Size.format g.T.DeserializeBytes.names g.U.DeserializeBytes.names;
  triples = λ first second third. fields_never g.T.Size.format g.T.DeserializeBytes.names _ first (fields_never g.U.Size.format g.U.DeserializeBytes.names g.V.DeserializeBytes.names second third);
  lists = list_never g.T.Size.format g.T.DeserializeBytes.names g.met.F.LengthField.lawful;
}
