use Rattle.std.proofs.Common.{inr, refl}
use Rattle.tls_codec_validate.proofs.Placing.{rejected_here}
use Rattle.tls_codec_validate.proofs.Validating.{leaves, rejects}
use Rattle.tls_codec_validate.proofs.bytes.skip_bytes.Goals as goal

pub returns-in-Err-clause-validates : goal.returns-in-Err-clause-validates
returns-in-Err-clause-validates g c = rejects c.in-Err.ensures.splits

pub returns-in-Err-clause-rejected : goal.returns-in-Err-clause-rejected
returns-in-Err-clause-rejected g c = rejected_here refl (inr c.in-Err.ensures.named)

pub returns-in-Ok-clause-validates : goal.returns-in-Ok-clause-validates
returns-in-Ok-clause-validates g c = leaves c.in-Ok.ensures.splits
