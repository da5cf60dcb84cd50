use Rattle.tls_codec_views.proofs.Parts.{inside_left}
use Rattle.tls_codec_views.proofs.payloads.Encoded+Enclosed+F+T.payload.Goals as goal

pub invariant_of-result : goal.invariant_of-result
invariant_of-result g c = inside_left g.T.Size.format.spells g.met.F.LengthField.lawful _ _ c.self.invariant c.after_length.ensures
