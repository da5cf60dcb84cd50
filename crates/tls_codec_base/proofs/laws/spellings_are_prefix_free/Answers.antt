use Rattle.std.proofs.Common.{[], refl, sym, ◌∙◌, append-nil}
use Rattle.tls_codec_base.proofs.laws.spellings_are_prefix_free.Goals as goal

pub returns : goal.returns
returns g c = record {
  prefix = λ s t v w p q b. (g.met.T.Size.lawful.spelled.one s t b.0 [] v w p q (sym b.1 ∙ sym (append-nil t))).0;
  value = λ s v w p q. (g.met.T.Size.lawful.spelled.one s s [] [] v w p q refl).1;
}
