use Rattle.tls_codec_grammar.specs.laws.FormatLaws.{variable_field_meets}
use Rattle.tls_codec_views.proofs.InContext.{row_inside}
use Rattle.tls_codec_views.proofs.elements_for.EncodedFor+X+Vec+T.elements.Goals as goal

pub invariant_of-result : goal.invariant_of-result
invariant_of-result g c = row_inside g.X.Keyed.is_key _ g.T.SizeFor.format_for variable_field_meets _ _ c.self.invariant c.after_length.ensures
