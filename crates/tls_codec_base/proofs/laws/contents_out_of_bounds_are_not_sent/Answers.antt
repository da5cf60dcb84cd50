use Rattle.tls_codec_base.proofs.OutOfBounds.{content_out_of_bounds, text_out_of_bounds}
use Rattle.tls_codec_base.proofs.laws.contents_out_of_bounds_are_not_sent.Goals as goal

pub returns : goal.returns
returns g c = record {
  lists = λ form v p outside. content_out_of_bounds g.met.F.LengthField.lawful g.met.T.Size.lawful form v p.spelled outside;
  texts = λ form v p outside. text_out_of_bounds form v p.spelled outside;
}
