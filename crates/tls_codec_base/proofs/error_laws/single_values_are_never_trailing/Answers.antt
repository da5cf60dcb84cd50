use Rattle.tls_codec_base.proofs.Trailing.{text_never, text_source_never}
use Rattle.tls_codec_base.proofs.error_laws.single_values_are_never_trailing.Goals as goal

pub returns : goal.returns
returns g c = record {
  numbers = (λ x p. let h = p.0 in cc, λ x p. let h = p.0 in cc, λ x p. let h = p.0 in cc, λ x p. let h = p.0 in cc, λ x p. let h = p.0 in cc, λ x p. p);
  numbers_read = (λ x old new p. p, λ x old new p. p, λ x old new p. p, λ x old new p. p, λ x old new p. p, λ x old new p. p);
  others = (λ x p. let h = p.0 in cc, text_never, λ x p. p);
  others_read = (λ x old new p. p, text_source_never, λ x old new p. p);
}
