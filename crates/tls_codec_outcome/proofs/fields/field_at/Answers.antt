use Rattle.tls_codec_grammar.specs.Tree.{Empty}
use Rattle.tls_codec_outcome.proofs.fields.field_at.Goals as goal

pub returns : goal.returns
returns g c at = c.field_for.ensures Empty tt at
