use Rattle.tls_codec_views.proofs.Parts.{last_left}
use Rattle.tls_codec_views.proofs.encoded.Encoded.from_only_part.Goals as goal

pub from_proved-requires : goal.from_proved-requires
from_proved-requires g c = last_left g.T.Size.format.spells c.requires
