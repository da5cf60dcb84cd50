use Rattle.tls_codec_base.proofs.Coming.{comes_first}
use Rattle.tls_codec_base.proofs.laws.just_the_rest_is_to_come.Goals as goal

pub returns : goal.returns
returns g c old v new given = comes_first _ _ _ _ v (g.met.R.Source.gives_from_front old given.front new given.held) given.spelled
