use Rattle.tls_codec_grammar.specs.Grammar.{content}
use Rattle.tls_codec_grammar.specs.laws.FormatLaws.{variable_field_meets}
use Rattle.tls_codec_views.proofs.Parts.{inside_left}
use Rattle.tls_codec_views.proofs.elements.Encoded+Vec+T.elements.Goals as goal

pub invariant_of-result : goal.invariant_of-result
invariant_of-result g c = inside_left (content g.T.Size.format.spells) variable_field_meets _ _ c.self.invariant c.after_length.ensures
