use Rattle.tls_codec_base.proofs.BothPaths.{slice_alone}
use Rattle.tls_codec_validate.proofs.Decoders.{one_length, one_rest}
use Rattle.tls_codec_validate.proofs.laws.what_is_validated_is_split.Goals as goal

pub returns : goal.returns
returns g c =
    let f = g.T.Size.format in
    let plain = g.T.Size.plain in
    let l = g.met.T.Size.lawful.spelled in
    record {
      rest = λ x rest found p b. one_rest l p b;
      length = λ x rest found p b. one_length l p b;
      accepted = λ x rest e p r. slice_alone f.spells x f.lean p.value rest.now e p.begins r;
      rejected = λ x e found r b. r.none (plain found.0) found.1.now b;
    }
