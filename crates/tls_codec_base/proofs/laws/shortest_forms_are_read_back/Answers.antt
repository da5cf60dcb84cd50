use Rattle.std.proofs.Common.{◌++◌, refl, sym, ap, ◌∙◌}
use Rattle.std.proofs.lemmas.List.{append_cancel_left}
use Rattle.tls_codec_base.proofs.laws.shortest_forms_are_read_back.Goals as goal

pub returns : goal.returns
returns g c = λ form rest v p full.
    let read = full form p.spelled in
    record {
      begins = record { front = form; whole = refl; spelled = read };
      alone = λ w left b.
          let h = g.met.T.Size.lawful.spelled.one b.front form left rest w v b.spelled read (sym b.whole) in
          (h.0, h.1, sym (append_cancel_left form rest left (b.whole ∙ ap (λ u. u ++ left) h.0)));
    }
