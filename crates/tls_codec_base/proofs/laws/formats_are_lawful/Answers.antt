use Rattle.tls_codec_grammar.specs.laws.FormatLaws.{fields_meets, fixed_list_meets, list_meets, nothing_meets, option_meets, text_meets}
use Rattle.tls_codec_grammar.specs.laws.TaggedLaws.{no_variant_meets, tagged_meets, variant_meets}
use Rattle.tls_codec_base.proofs.laws.formats_are_lawful.Goals as goal

pub returns : goal.returns
returns g c = record {
  options = option_meets g.met.T.Size.lawful;
  none = nothing_meets;
  more = fields_meets g.met.T.Size.lawful g.met.U.Size.lawful;
  lists = list_meets g.met.T.Size.lawful;
  fixed = λ k. fixed_list_meets k g.met.T.Size.lawful;
  texts = text_meets;
  choices = λ k m n small. tagged_meets k small (variant_meets m g.met.T.Size.lawful (variant_meets n g.met.U.Size.lawful no_variant_meets));
}
