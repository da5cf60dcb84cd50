use Rattle.tls_codec_wire.proofs.Seen.{seen_more, seen_told, seen_untold}
use Rattle.tls_codec_wire.proofs.laws.what_was_seen_was_reported_or_given.Goals as goal

pub returns : goal.returns
returns g c =
    let source = g.met.R.Source in
    record {
      reported = λ old new x y p tells. seen_told source.gives_from_front tells p;
      unreported = λ old new x p never. seen_untold source.gives_in_order never p;
      more = λ old new x p. seen_more source.gives_in_order source.gives_from_front p;
    }
