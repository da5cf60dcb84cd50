use Rattle.tls_codec_views.proofs.Parts.{is_length}
use Rattle.tls_codec_views.proofs.content.after_length.Goals as goal

pub unreachable-requires : goal.unreachable-requires
unreachable-requires g c = is_length g.met.F.LengthField.lawful c.in-Err.ensures.err c.requires.1
