use Rattle.tls_codec_validate.proofs.Runs.{each_number}
use Rattle.tls_codec_validate.proofs.numbers.U64Validate.tls_width.Goals as goal

pub returns : goal.returns
returns c = each_number 8
