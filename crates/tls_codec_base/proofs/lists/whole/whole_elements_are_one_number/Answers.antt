use Rattle.tls_codec_base.proofs.WholeElements.{one_number}
use Rattle.tls_codec_base.proofs.lists.whole.whole_elements_are_one_number.Goals as goal

pub returns : goal.returns
returns g c = one_number _ _ g.met.T.Size.lawful.spelled
