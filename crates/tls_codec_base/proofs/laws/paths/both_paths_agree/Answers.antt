use Rattle.std.proofs.Common.{Some, ap, ◌∙◌}
use Rattle.tls_codec_wire.proofs.Seen.{told_cause}
use Rattle.tls_codec_base.proofs.BothPaths.{one_front, one_whole, slice_alone, source_alone, was_first, whole_alone}
use Rattle.tls_codec_base.proofs.laws.paths.both_paths_agree.Goals as goal

pub returns : goal.returns
returns g c =
    let f = g.T.Size.format in
    let plain = g.T.Size.plain in
    let counts = g.R.Source.counts in
    let l = g.met.T.Size.lawful.spelled in
    record {
      agree = λ x old new found v b.
          let first = was_first g.met.R.Source.gives_from_front b in
          let h = one_front f.spells x f.announced l (plain found.0) (plain v) found.1.now first.0 b.splits first.2 in
          (h.0, first.1 ∙ ap Some h.1);
      slice_alone = λ x old new found e b.
          source_alone f.spells x f.lean (plain found.0) found.1.now (counts old) (counts new) e b.splits (told_cause g.met.R.Source.gives_from_front b.reported b.reads.refused);
      source_alone = λ x old new e v b.
          let first = was_first g.met.R.Source.gives_from_front b in
          slice_alone f.spells x f.lean (plain v) first.0 e first.2 b.splits;
      exact = λ x v w. one_whole f.spells x f.announced l (plain v) (plain w);
      exact_alone = λ x v e. whole_alone f.spells x f.lean (plain v) e;
    }
