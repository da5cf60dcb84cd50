use Rattle.std.proofs.Common.{List, ℕ, subst}
use Rattle.tls_codec_grammar.specs.Grammar.{Reading}
use Rattle.tls_codec_wire.proofs.Seen.{seen_told, seen_untold, told_cause}
use Rattle.tls_codec_base.proofs.laws.sources.sources_are_refused_for_what_they_show.Goals as goal

pub returns : goal.returns
returns g c =
    let source = g.met.R.Source in
    record {
      reported = λ x old new e tells p. told_cause source.gives_from_front tells p.refused;
      reported_names = λ x old new e tells p. (told_cause source.gives_from_front tells p.refused).1;
      unreported = λ old new e never p. (p.refused.bytes, seen_untold source.gives_in_order never p.refused.seen, p.refused.cause);
      unreported_names = λ old new e never p. (p.refused.bytes, seen_untold source.gives_in_order never p.refused.seen, p.refused.cause.1);
      whole = λ x old new v tells p. subst (λ (u : List ℕ). g.T.Size.format.spells Reading u v) (seen_told source.gives_from_front tells p.seen) p.spelled;
    }
