use Rattle.tls_codec_outcome.proofs.Telling.{decides_rejected, takes}
use Rattle.tls_codec_outcome.proofs.calls.validate.Goals as goal

pub returns-in-Ok-clause-taken : goal.returns-in-Ok-clause-taken
returns-in-Ok-clause-taken g c = takes g.T.Size.format c.in-Ok.ensures.validates.begins c.accepted.ensures.status c.accepted.ensures.taken

pub returns-in-Err-clause-status : goal.returns-in-Err-clause-status
returns-in-Err-clause-status g c = decides_rejected g.T.Size.format c.in-Err.ensures.validates c.rejection.ensures.status
