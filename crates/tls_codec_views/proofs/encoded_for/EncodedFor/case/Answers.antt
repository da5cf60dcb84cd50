use Rattle.tls_codec_views.proofs.InContext.{case_parts}
use Rattle.tls_codec_views.proofs.encoded_for.EncodedFor.case.Goals as goal

pub returns-clause-parts : goal.returns-clause-parts
returns-clause-parts g c =
    case_parts g.K.Keyed.is_key _ g.K.Selector.selected g.T.SizeFor.format_for g.T.ChoiceFor.variants c.tag_of_key.ensures g.met.T.ChoiceFor.as_choice c.self.invariant
