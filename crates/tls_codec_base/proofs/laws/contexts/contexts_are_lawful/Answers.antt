use Rattle.tls_codec_grammar.specs.laws.ThenLaws.{then_meets}
use Rattle.tls_codec_grammar.specs.laws.ContextLaws.{present_meets}
use Rattle.tls_codec_grammar.specs.laws.InsideLaws.{bytes_to_end_meet, enclosed_meets, fields_meet_inside, inside_meets, zeros_meet}
use Rattle.tls_codec_base.proofs.laws.contexts.contexts_are_lawful.Goals as goal

pub returns : goal.returns
returns g c = record {
  pairs = then_meets g.met.C.Size.lawful g.met.T.SizeFor.lawful;
  payloads = λ there. present_meets there g.met.C.Size.lawful;
  enclosed = λ context. enclosed_meets g.met.F.LengthField.lawful (inside_meets (g.met.T.SizeFor.lawful context));
  padded = λ context. fields_meet_inside (g.met.T.SizeFor.lawful context) zeros_meet;
  to_end = λ context. fields_meet_inside (g.met.T.SizeFor.lawful context) bytes_to_end_meet;
}
