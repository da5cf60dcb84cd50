use Rattle.std.proofs.Common.{Some, ap, ◌∙◌}
use Rattle.tls_codec_wire.proofs.Seen.{told_cause}
use Rattle.tls_codec_base.proofs.BothPaths.{source_alone}
use Rattle.tls_codec_validate.proofs.Decoders.{one_rest, was_front}
use Rattle.tls_codec_validate.proofs.laws.what_is_validated_is_read.Goals as goal

pub returns : goal.returns
returns g c =
    let f = g.T.Size.format in
    let plain = g.T.Size.plain in
    let counts = g.R.Source.counts in
    let from_front = g.met.R.Source.gives_from_front in
    let l = g.met.T.Size.lawful.spelled in
    record {
      rest = λ x rest old new v told p reads.
          let first = was_front g.R.Source from_front told reads in
          first.1 ∙ ap Some (one_rest l p first.2);
      accepted = λ x rest old new e told p reads. source_alone f.spells x f.lean p.value rest.now (counts old) (counts new) e p.begins (told_cause from_front told reads.refused);
      rejected = λ x e old new v told r reads.
          let first = was_front g.R.Source from_front told reads in
          r.none (plain v) first.0 first.2;
    }
