use Rattle.tls_codec_validate.proofs.Runs.{each_sum}
use Rattle.tls_codec_validate.proofs.products.Tuple3Validate.tls_width.Goals as goal

pub returns : goal.returns
returns g c = each_sum _ _ c.checked_add.ensures c.in_ok-tls_width.ensures c.in_ok-tls_width-2.ensures
