use Rattle.std.proofs.Common.{sym, ◌∙◌, inl}
use Rattle.tls_codec_grammar.specs.laws.ListLaws.{content_in_a_row}
use Rattle.tls_codec_base.proofs.laws.shortest_contents_are_in_a_row.Goals as goal

pub returns : goal.returns
returns g c = record {
  none = λ form. (λ p. p.spelled, λ e. record { spelled = e; least = λ t q. inl (q ∙ sym e) });
  more = λ form v vs. content_in_a_row _ _ g.met.T.Size.lawful.spelled form v vs;
}
