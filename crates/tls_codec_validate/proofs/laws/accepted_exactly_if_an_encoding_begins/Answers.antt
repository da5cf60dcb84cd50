use Rattle.tls_codec_validate.proofs.Decoders.{accepted}
use Rattle.tls_codec_validate.proofs.laws.accepted_exactly_if_an_encoding_begins.Goals as goal

pub returns : goal.returns
returns g c x result p = accepted g.T.Size.format result p
