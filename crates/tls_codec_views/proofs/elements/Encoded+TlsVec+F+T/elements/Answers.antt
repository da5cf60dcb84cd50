use Rattle.tls_codec_grammar.specs.Grammar.{content}
use Rattle.tls_codec_views.proofs.Parts.{inside_left}
use Rattle.tls_codec_views.proofs.elements.Encoded+TlsVec+F+T.elements.Goals as goal

pub invariant_of-result : goal.invariant_of-result
invariant_of-result g c = inside_left (content g.T.Size.format.spells) g.met.F.LengthField.lawful _ _ c.self.invariant c.after_length.ensures
