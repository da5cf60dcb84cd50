use Rattle.tls_codec_base.proofs.BothPaths.{whole_alone}
use Rattle.tls_codec_validate.proofs.laws.what_is_validated_whole_is_decoded.Goals as goal

pub returns : goal.returns
returns g c =
    let f = g.T.Size.format in
    record {
      accepted = λ x e p r. whole_alone f.spells x f.lean p.0 e p.1 r;
      rejected = λ x e v r p. r.none (g.T.Size.plain v) p;
    }
