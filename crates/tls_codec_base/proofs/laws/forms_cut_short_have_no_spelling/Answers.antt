use Rattle.std.proofs.Common.{◌≡◌, [], ◌++◌, length, sym, ap, ◌∙◌, append-nil, append_assoc, arith, length-append}
use Rattle.tls_codec_base.proofs.laws.forms_cut_short_have_no_spelling.Goals as goal

pub returns : goal.returns
returns g c = λ part form v p full begins short w left b.
    let whole : b.front ++ (left ++ begins.0) ≡ form ++ [] = sym (append_assoc b.front left begins.0) ∙ ap (λ u. u ++ begins.0) (sym b.whole) ∙ sym begins.1 ∙ sym (append-nil form) in
    let same = g.met.T.Size.lawful.spelled.one b.front form (left ++ begins.0) [] w v b.spelled (full form p.spelled) whole in
    omega (arith, short, ap length same.0, ap length b.whole, length-append b.front left)
