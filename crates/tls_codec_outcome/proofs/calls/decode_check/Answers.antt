use Rattle.tls_codec_outcome.proofs.Telling.{takes}
use Rattle.tls_codec_outcome.proofs.calls.decode_check.Goals as goal

pub returns-in-Ok-clause-taken : goal.returns-in-Ok-clause-taken
returns-in-Ok-clause-taken g c = takes g.T.Size.format c.in-Ok.ensures.splits c.accepted.ensures.status c.accepted.ensures.taken
